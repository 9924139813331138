-- Laws of "reaches", for any "refers to".
use Rattle.std.proofs.Common.{List, [], ◌∷◌}
use Rattle.link_graph.specs.Reaches.{Leads, Reaches}

module _ {A : Type 0} (refers : A → A → Type 0) where
  -- a reference is a list of one
  pub reaches_once : (x y : A) → refers x y → Reaches refers x y
  reaches_once x y r = ([], r)

  -- a reference, and then a list
  pub reaches_first : (x y z : A) → refers x y → Reaches refers y z → Reaches refers x z
  reaches_first x y z r w = (y ∷ w.0, (r, w.1))

  leads_trans : (x : A) (via : List A) (y z : A) → Leads refers x via y → Reaches refers y z → Reaches refers x z
  leads_trans x [] y z r w = reaches_first x y z r w
  leads_trans x (next ∷ via) y z r w = reaches_first x next z r.0 (leads_trans next via y z r.1 w)

  -- one list after the other
  pub reaches_trans : (x y z : A) → Reaches refers x y → Reaches refers y z → Reaches refers x z
  reaches_trans x y z v w = leads_trans x v.0 y z v.1 w

  -- a list, and then a reference
  pub reaches_last : (x y z : A) → Reaches refers x y → refers y z → Reaches refers x z
  reaches_last x y z w r = reaches_trans x y z w (reaches_once y z r)

-- What is kept by each reference is kept by a list of them: for ids and places of the same entities.
module _ {A B : Type 0} (R : A → A → Type 0) (S : B → B → Type 0) (f : A → B) where
  leads_mapped : ((x y : A) → R x y → S (f x) (f y)) → (x : A) (via : List A) (y : A) → Leads R x via y
      → Reaches S (f x) (f y)
  leads_mapped keeps x [] y r = reaches_once S (f x) (f y) (keeps x y r)
  leads_mapped keeps x (next ∷ via) y r =
      reaches_first S (f x) (f next) (f y) (keeps x next r.0) (leads_mapped keeps next via y r.1)

  pub reaches_mapped : ((x y : A) → R x y → S (f x) (f y)) → (x y : A) → Reaches R x y → Reaches S (f x) (f y)
  reaches_mapped keeps x y w = leads_mapped keeps x w.0 y w.1

-- Two crossings with nothing between them mean what the one that covers both means, for every kind of producer whose
-- edges after a crossing are those of a part in which nothing came.
use Rattle.std.proofs.Common.{◌≡◌, ℕ, suc, ◌+◌, ◌*◌, List, [], ◌∷◌, ◌++◌, Some, refl, sym, ap, subst, ◌∙◌, arith, append_assoc}
use Rattle.bucket_clock.specs.declared.crossings.Crossings.{Crossings}
use Rattle.bucket_clock.specs.Clock.{last_end, ends_of}
use Rattle.bucket_meaning.specs.Ends.{ends_from}
use Rattle.bucket_meaning.specs.Marks.{Ends, Edges, Books, no_edges, edges_again, boundary, boundary_marks, books_of}
use Rattle.bucket_meaning.specs.Meaning.{marks_by, books_by}
use Rattle.bucket_meaning.specs.Rows.{drops}
use Rattle.bucket_meaning.proofs.EndsLemmas.{ends_from-split}
use Rattle.sd_base.proofs.OutputsLemmas.{outputs-push}
use Rattle.metric_producer.specs.Calls.{Call, Crossed, Demands, Standing, standing_of, first_standing}
use Rattle.metric_producer.specs.Collecting.{Collecting, call_marks, calls_mean}
use Rattle.metric_producer.specs.Joining.{IsJoined, Joins}
use Rattle.metric_producer.proofs.RuleLemmas.{standing_from-append}

module _ (one other whole : Crossings) (made : IsJoined one other whole) where
  -- the first end of the second comes after all of the first's
  next_is : other.first_end ≡ one.first_end + suc one.full_buckets * one.size
  next_is =
      let next = made.next_end in omega (arith, next)

  -- both end where the whole ends
  pub last_joined : last_end other ≡ last_end whole
  last_joined =
      let last : last_end other ≡ other.first_end + other.full_buckets * one.size =
      ap (λ size. other.first_end + other.full_buckets * size) made.same_size in
      let all : last_end whole ≡ one.first_end + whole.full_buckets * one.size =
      ap (λ first. first + whole.full_buckets * whole.size) made.first_end
      ∙ ap (λ size. one.first_end + whole.full_buckets * size) made.size in
      let number : whole.full_buckets * one.size ≡ (one.full_buckets + suc other.full_buckets) * one.size =
      ap (λ n. n * one.size) made.full_buckets in
      omega (arith, next_is, last, all, number)

  -- the ends of the whole are those of the first and then those of the second
  pub ends_joined : ends_of (Some whole) ≡ ends_of (Some one) ++ ends_of (Some other)
  ends_joined =
      let n = suc one.full_buckets in
      let m = suc other.full_buckets in
      let full = made.full_buckets in
      let number : suc whole.full_buckets ≡ n + m = omega (arith, full) in
      ap (λ first. ends_from first whole.size (suc whole.full_buckets)) made.first_end
      ∙ ap (λ size. ends_from one.first_end size (suc whole.full_buckets)) made.size
      ∙ ap (ends_from one.first_end one.size) number
      ∙ ends_from-split one.first_end one.size n m
      ∙ ap (λ first. ends_of (Some one) ++ ends_from first one.size m) (sym next_is)
      ∙ ap (λ size. ends_of (Some one) ++ ends_from other.first_end size m) (sym made.same_size)

module _ {X : Type 0} where
  -- boundaries in which nothing came, and others after them
  again_append : (edges : Edges X) (ends more : List ℕ)
      → boundary_marks (edges_again edges) (ends ++ more)
      ≡ boundary_marks (edges_again edges) ends ++ boundary_marks (edges_again edges) more
  again_append edges [] more = refl
  again_append edges (at ∷ ends) more =
      ap (λ later. boundary (edges_again edges) at ++ later) (again_append edges ends more)
      ∙ sym (append_assoc (boundary (edges_again edges) at) (boundary_marks (edges_again edges) ends)
      (boundary_marks (edges_again edges) more))

  -- boundaries, the first of which may close what came, and others after them
  pub boundary_marks-append : (edges : Edges X) (at : ℕ) (ends more : List ℕ)
      → boundary_marks edges ((at ∷ ends) ++ more)
      ≡ boundary_marks edges (at ∷ ends) ++ boundary_marks (edges_again edges) more
  boundary_marks-append edges at ends more =
      ap (λ later. boundary edges at ++ later) (again_append edges ends more)
      ∙ sym (append_assoc (boundary edges at) (boundary_marks (edges_again edges) ends)
      (boundary_marks (edges_again edges) more))

  -- Edges that put the same at every time.
  pub record AreAlike (one other : Edges X) : Type 0 where
    pub closing : (at : ℕ) → one.closing at ≡ other.closing at
    pub closing_again : (at : ℕ) → one.closing_again at ≡ other.closing_again at
    pub opening : (at : ℕ) → one.opening at ≡ other.opening at

  -- they give the same marks
  alike_marks : (one other : Edges X) (ends : List ℕ) → AreAlike one other
      → boundary_marks one ends ≡ boundary_marks other ends
  alike_marks one other [] alike = refl
  alike_marks one other (at ∷ ends) alike =
      ap (λ closing. (closing ++ (Ends at ∷ one.opening at)) ++ boundary_marks (edges_again one) ends)
      (alike.closing at)
      ∙ ap (λ opening. (other.closing at ++ (Ends at ∷ opening)) ++ boundary_marks (edges_again one) ends)
      (alike.opening at)
      ∙ ap (λ later. boundary other at ++ later)
      (alike_marks (edges_again one) (edges_again other) ends
      (record { closing = alike.closing_again; closing_again = alike.closing_again; opening = alike.opening }))

-- what no crossing changes is after both what it is after the whole
pub same_joined : {Event After A : Type 0} (f : List (Call Event After) → A)
    → ((calls : List (Call Event After)) (crossings : Crossings) → f (calls ++ Crossed crossings ∷ []) ≡ f calls)
    → (calls : List (Call Event After)) (one other whole : Crossings)
    → f (calls ++ Crossed whole ∷ []) ≡ f (calls ++ Crossed one ∷ Crossed other ∷ [])
same_joined f stays calls one other whole =
    stays calls whole ∙ sym (stays calls one) ∙ sym (stays (calls ++ Crossed one ∷ []) other)
    ∙ ap f (append_assoc calls (Crossed one ∷ []) (Crossed other ∷ []))

-- how far both crossings come is how far the whole comes
pub standing_joined : {Event After : Type 0} (demands : Demands Event After) (calls : List (Call Event After))
    (one other whole : Crossings) → IsJoined one other whole
    → standing_of demands (calls ++ Crossed whole ∷ [])
    ≡ standing_of demands (calls ++ Crossed one ∷ Crossed other ∷ [])
standing_joined {Event} {After} demands calls one other whole made =
    let first = first_standing demands in
    let standing : Standing = standing_of demands calls in
    let size : whole.size ≡ other.size = made.size ∙ sym made.same_size in
    let last : last_end whole ≡ last_end other = sym (last_joined one other whole made) in
    standing_from-append demands first calls (Crossed whole ∷ [])
    ∙ ap (λ end. let to : Standing = record standing { start = end; next_end = end + whole.size; last = end } in to)
    last
    ∙ ap (λ n. let to : Standing = record standing {
      start = last_end other;
      next_end = last_end other + n;
      last = last_end other;
    } in to) size
    ∙ sym (standing_from-append demands first calls (Crossed one ∷ Crossed other ∷ []))

module _ {Params Event After X K C R : Type 0} (collecting : Collecting Params Event After X K C R) where
  -- after a crossing the edges are those of a part in which nothing came
  abbrev pub BeginsAnew : Params → Type 0
  BeginsAnew params = (calls : List (Call Event After)) (crossings : Crossings)
      → AreAlike (collecting.edges params (calls ++ Crossed crossings ∷ []))
      (edges_again (collecting.edges params calls))

  module _ (params : Params) (calls : List (Call Event After)) (one other whole : Crossings)
      (made : IsJoined one other whole) (anew : BeginsAnew params) where
    -- the marks of both crossings are those of the whole
    pub marks_joined : marks_by (calls_mean collecting) params (calls ++ Crossed whole ∷ [])
        ≡ marks_by (calls_mean collecting) params (calls ++ Crossed one ∷ Crossed other ∷ [])
    marks_joined =
        let marks = call_marks collecting params in
        let before = marks_by (calls_mean collecting) params calls in
        let edges = collecting.edges params calls in
        let later = collecting.edges params (calls ++ Crossed one ∷ []) in
        let rest = ends_from (one.first_end + one.size) one.size one.full_buckets in
        outputs-push marks calls (Crossed whole)
        ∙ ap (λ ends. before ++ boundary_marks edges ends) (ends_joined one other whole made)
        ∙ ap (λ more. before ++ more) (boundary_marks-append edges one.first_end rest (ends_of (Some other)))
        ∙ ap (λ more. before ++ (boundary_marks edges (ends_of (Some one)) ++ more))
        (sym (alike_marks later (edges_again edges) (ends_of (Some other)) (anew calls one)))
        ∙ sym (append_assoc before (boundary_marks edges (ends_of (Some one)))
        (boundary_marks later (ends_of (Some other))))
        ∙ ap (λ more. more ++ boundary_marks later (ends_of (Some other)))
        (sym (outputs-push marks calls (Crossed one)))
        ∙ sym (outputs-push marks (calls ++ Crossed one ∷ []) (Crossed other))
        ∙ ap (marks_by (calls_mean collecting) params) (append_assoc calls (Crossed one ∷ []) (Crossed other ∷ []))

    -- and so are their books
    pub books_joined : books_by (calls_mean collecting) params (calls ++ Crossed whole ∷ [])
        ≡ books_by (calls_mean collecting) params (calls ++ Crossed one ∷ Crossed other ∷ [])
    books_joined =
        ap (books_of (drops (collecting.kind params) (collecting.bound params)) (collecting.demands params).base)
        marks_joined

  -- an object that holds no more than the books of its calls stands for both crossings where it does for the whole
  pub booked_joins : {P : Type 0} (HasBooks : P → Params → Books X → Type 0)
      → ((params : Params) → BeginsAnew params)
      → Joins (record {
        stands = λ object params calls. HasBooks object params (books_by (calls_mean collecting) params calls);
        collecting = collecting;
      })
  booked_joins HasBooks anew object params calls one other whole made stands =
      subst (HasBooks object params) (books_joined params calls one other whole made (anew params)) stands

-- where nothing stands at boundaries, that is so after each crossing
pub none_anew : {X : Type 0} → AreAlike {X = X} no_edges (edges_again no_edges)
none_anew = record { closing = λ at. refl; closing_again = λ at. refl; opening = λ at. refl }

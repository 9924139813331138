-- For the build of a live configuration: its client and its id, its bytes, and the instance that is linked as they say.
use Rattle.std.proofs.Common.{◌≡◌, ℕ, ℤ, ◌+◌, ◌<◌, ◌≤◌, ◌^◌, w32, List, ◌++◌, length, Result, Ok, Err, refl, sym, ap, subst, ◌∙◌, append_assoc, arith}
use Rattle.std.specs.Int.{cast_unsigned, cast_signed}
use Rattle.std.proofs.lemmas.Int.{to_z-of_z, of_z-to_z}
use Rattle.std.proofs.lemmas.List.{length-append}
use Rattle.atom_record.proofs.AtomReadingValues.{unsigned32, signed32}
use Rattle.config_links.specs.declared.linked.Linked.{Linked}
use Rattle.session_frames.specs.declared.reply.Refusal.{Refusal}
use Rattle.flat_form.specs.declared.item.Item.{Item}
use Rattle.flat_form.specs.declared.flat_error.FlatError.{FlatError}
use Rattle.flat_form.specs.declared.flat_error.FlatError.TheVariants.{Bad, Memory}
use Rattle.flat_form.specs.Flat.{Anything, StandsAt, IsValidPair, IsBuilt, Builds, number_items, signed_items, IsSigned, chunk_items, pair_items}
use Rattle.flat_form.proofs.FlatLaws as laws
use Rattle.client_engine.specs.Running.{Running, linked_of}
use Rattle.client_engine.specs.SavedInstances.{instance_items, IsSavedInstance}
use Rattle.client_engine.specs.declared.live_id.LiveId.{LiveId}
use Rattle.hub_core.specs.CarriedConfigs.{Saved, linked_from}
use Rattle.hub_core.specs.SavedConfigs.{uid_items, IsUid, name_items, IsLiveName, IsInstanceOf, carried_items, IsCarried}

module _ (items : List Item) (place : ℕ) where
  -- where no number stands, no client does
  pub uid_fails : (e : FlatError) → Builds Anything number_items items place (Err e)
      → Builds IsUid uid_items items place (Err e)
  uid_fails Bad never = λ uid fits there. never (cast_unsigned w32 uid) tt there
  uid_fails Memory none = tt

  module _ (number next : ℕ) (one : IsBuilt Anything number_items items place number next) where
    -- a client is built from the number of its bits
    pub uid_built : number < 2 ^ 32 → IsBuilt IsUid uid_items items place (cast_signed w32 number) next
    uid_built narrow =
        let bits : cast_unsigned w32 (cast_signed w32 number) ≡ number = of_z-to_z w32 number narrow in
        record {
          is_valid = signed32 number narrow;
          stands = subst (λ (n : ℕ). StandsAt items place (number_items n)) (sym bits) one.stands;
          ends = one.ends;
          only = λ other fits there.
              sym (to_z-of_z w32 other fits)
              ∙ ap (cast_signed w32) (one.only (cast_unsigned w32 other) tt there);
        }

    -- a larger number is that of none
    pub no_uid : 2 ^ 32 ≤ number → Builds IsUid uid_items items place (Err Bad)
    no_uid wide = λ other fits there.
        let same : cast_unsigned w32 other ≡ number = one.only (cast_unsigned w32 other) tt there in
        let narrow = unsigned32 other fits in
        omega (arith, wide, same, narrow)

  -- where no client stands, no name does
  pub name_fails : (e : FlatError) → Builds IsUid uid_items items place (Err e)
      → Builds IsLiveName name_items items place (Err e)
  name_fails Bad never = λ name fits there.
      never name.uid fits.0 (laws.StandsAt-front items place (uid_items name.uid) (signed_items name.id) there)
  name_fails Memory none = tt

  module _ (uid : ℤ) (middle : ℕ) (one : IsBuilt IsUid uid_items items place uid middle) where
    -- nor where no id stands after it
    pub id_fails : (e : FlatError) → Builds IsSigned signed_items items middle (Err e)
        → Builds IsLiveName name_items items place (Err e)
    id_fails e fails =
        laws.form_fails (IsValidPair IsUid IsSigned) (pair_items uid_items signed_items) IsLiveName name_items
        (λ name. (name.uid, name.id)) (λ name. refl) (λ name fits. fits) items place e
        (laws.second_fails IsUid IsSigned uid_items signed_items items place uid middle one e fails)

    -- a name is its client and its id
    pub name_built : (id : ℤ) (next : ℕ) → IsBuilt IsSigned signed_items items middle id next → {own_uid own_id : ℤ}
        → own_uid ≡ uid → own_id ≡ id
        → IsBuilt IsLiveName name_items items place (record { uid = own_uid; id = own_id }) next
    name_built id next two {own_uid} {own_id} same_uid same_id =
        laws.form_built (IsValidPair IsUid IsSigned) (pair_items uid_items signed_items) IsLiveName name_items
        (λ name. (name.uid, name.id)) (λ name. refl) (λ name fits. fits) items place (uid, id) next
        (laws.pair_built IsUid IsSigned uid_items signed_items items place uid id middle next one two)
        (record { uid = own_uid; id = own_id })
        (subst IsUid (sym same_uid) one.is_valid, subst IsSigned (sym same_id) two.is_valid)
        (λ i. (same_uid i, same_id i))
        (λ other fits same.
        let whole : (other.uid, other.id) ≡ (own_uid, own_id) =
        same ∙ (λ i. (sym same_uid i, sym same_id i)) in
        λ i. record { uid = (whole i).0; id = (whole i).1 })

-- what bytes say is one linked form
same_linked : (read : Result Linked Refusal) (one other : Linked) → read ≡ Ok one → read ≡ Ok other → one ≡ other
same_linked read one other first second = ap (form_or one) (sym first ∙ second) where
  form_or : Linked → Result Linked Refusal → Linked
  form_or none (Ok linked) = linked
  form_or none (Err refusal) = none

module _ (uid : ℤ) (bytes : List ℕ) (items : List Item) (place : ℕ) where
  -- bytes that are refused say no instance
  pub refused : (refusal : Refusal) → linked_from uid bytes ≡ Err refusal
      → Builds (IsInstanceOf uid bytes) instance_items items place (Err Bad)
  refused refusal says it is there = absurd (subst is_ok (sym is.linked ∙ says) tt) where
    is_ok : Result Linked Refusal → Type 0
    is_ok (Ok linked) = Unit {0}
    is_ok (Err why) = ⊥

  module _ (linked : Linked) (says : linked_from uid bytes ≡ Ok linked) where
    -- an instance of what the bytes say is one of this linked form
    of_linked : (it : Running) → IsInstanceOf uid bytes it → IsSavedInstance linked it
    of_linked it is =
        subst (λ (form : Linked). IsSavedInstance form it)
        (same_linked (linked_from uid bytes) (linked_of it) linked is.linked says) is.saved

    -- and the other way round
    to_linked : (it : Running) → IsSavedInstance linked it → IsInstanceOf uid bytes it
    to_linked it is = record {
      linked = says ∙ ap (λ (form : Linked). Ok form) (sym is.linked_is);
      saved = subst (λ (form : Linked). IsSavedInstance form it) (sym is.linked_is) is;
    }

    -- what is built of the linked form is built of the bytes
    pub instance_built : (result : Result (Running × ℕ) FlatError)
        → Builds (IsSavedInstance linked) instance_items items place result
        → Builds (IsInstanceOf uid bytes) instance_items items place result
    instance_built (Ok built) one = record {
      is_valid = to_linked built.0 one.is_valid;
      stands = one.stands;
      ends = one.ends;
      only = λ other is there. one.only other (of_linked other is) there;
    }
    instance_built (Err Bad) never = λ it is there. never it (of_linked it is) there
    instance_built (Err Memory) none = tt

-- what is built for a client and bytes is built for the same
pub built_as : {uid own_uid : ℤ} {bytes own_bytes : List ℕ} → own_uid ≡ uid → own_bytes ≡ bytes → (items : List Item)
    (place : ℕ) (result : Result (Running × ℕ) FlatError)
    → Builds (IsInstanceOf own_uid own_bytes) instance_items items place result
    → Builds (IsInstanceOf uid bytes) instance_items items place result
built_as {uid} {own_uid} {bytes} {own_bytes} same_uid same_bytes items place result built =
    subst (λ (n : ℤ). Builds (IsInstanceOf n bytes) instance_items items place result) same_uid
    (subst (λ (l : List ℕ). Builds (IsInstanceOf own_uid l) instance_items items place result) same_bytes built)

-- what stands behind the name
abbrev rest_items : Saved → List Item
rest_items it = chunk_items it.config ++ instance_items it.instance

module _ (items : List Item) (place : ℕ) where
  name_here : (it : Saved) → StandsAt items place (carried_items it) → StandsAt items place (name_items it.name)
  name_here it there = laws.StandsAt-front items place (name_items it.name) (rest_items it) there

  -- no name stands there
  pub no_name : (e : FlatError) → Builds IsLiveName name_items items place (Err e)
      → Builds IsCarried carried_items items place (Err e)
  no_name Bad never = λ it is there. never it.name is.name (name_here it there)
  no_name Memory none = tt

  module _ (name : LiveId) (first : ℕ) (one : IsBuilt IsLiveName name_items items place name first) where
    same_name : (it : Saved) → IsCarried it → StandsAt items place (carried_items it) → it.name ≡ name
    same_name it is there = one.only it.name is.name (name_here it there)

    -- the name that stands there is the only one
    rest_here : (it : Saved) → IsCarried it → StandsAt items place (carried_items it)
        → StandsAt items first (rest_items it)
    rest_here it is there =
        let ends : place + length (name_items it.name) ≡ first =
        ap (λ (n : LiveId). place + length (name_items n)) (same_name it is there) ∙ sym one.ends in
        subst (λ p. StandsAt items p (rest_items it)) ends
        (laws.StandsAt-back items place (name_items it.name) (rest_items it) there)

    bytes_here : (it : Saved) → IsCarried it → StandsAt items place (carried_items it)
        → StandsAt items first (chunk_items it.config)
    bytes_here it is there =
        laws.StandsAt-front items first (chunk_items it.config) (instance_items it.instance) (rest_here it is there)

    -- no bytes stand behind it
    pub no_bytes : (e : FlatError) → Builds Anything chunk_items items first (Err e)
        → Builds IsCarried carried_items items place (Err e)
    no_bytes Bad never = λ it is there. never it.config tt (bytes_here it is there)
    no_bytes Memory none = tt

    module _ (config : List ℕ) (second : ℕ) (two : IsBuilt Anything chunk_items items first config second) where
      same_config : (it : Saved) → IsCarried it → StandsAt items place (carried_items it) → it.config ≡ config
      same_config it is there = two.only it.config tt (bytes_here it is there)

      instance_here : (it : Saved) → IsCarried it → StandsAt items place (carried_items it)
          → StandsAt items second (instance_items it.instance)
      instance_here it is there =
          subst (λ p. StandsAt items p (instance_items it.instance)) (sym two.ends)
          (laws.StandsAt-back items first (chunk_items it.config) (instance_items it.instance) (rest_here it is there))

      own : (it : Saved) → IsCarried it → StandsAt items place (carried_items it)
          → IsInstanceOf name.uid config it.instance
      own it is there =
          subst (λ (n : LiveId). IsInstanceOf n.uid config it.instance) (same_name it is there)
          (subst (λ (bytes : List ℕ). IsInstanceOf it.name.uid bytes it.instance) (same_config it is there) is.instance)

      -- no instance of those bytes stands behind them
      pub no_instance : (e : FlatError) → Builds (IsInstanceOf name.uid config) instance_items items second (Err e)
          → Builds IsCarried carried_items items place (Err e)
      no_instance Bad never = λ it is there. never it.instance (own it is there) (instance_here it is there)
      no_instance Memory none = tt

      -- the live configuration of these parts
      pub carried_built : (instance : Running) (next : ℕ)
          → IsBuilt (IsInstanceOf name.uid config) instance_items items second instance next
          → IsBuilt IsCarried carried_items items place
          (record { name = name; config = config; instance = instance }) next
      carried_built instance next three =
          let a = one.ends in
          let b = two.ends in
          let c = three.ends in
          let tail = laws.StandsAt-join items first (chunk_items config) (instance_items instance) two.stands
          (subst (λ p. StandsAt items p (instance_items instance)) two.ends three.stands) in
          record {
            is_valid = record { name = one.is_valid; instance = three.is_valid };
            stands = laws.StandsAt-join items place (name_items name) (chunk_items config ++ instance_items instance)
                one.stands
                (subst (λ p. StandsAt items p (chunk_items config ++ instance_items instance)) one.ends tail);
            ends =
                let whole = length-append (name_items name) (chunk_items config ++ instance_items instance) in
                let part = length-append (chunk_items config) (instance_items instance) in
                omega (arith, a, b, c, whole, part);
            only = λ other is there.
                let n = same_name other is there in
                let l = same_config other is there in
                let i = three.only other.instance (own other is there) (instance_here other is there) in
                λ k. record { name = n k; config = l k; instance = i k };
          }

-- what is added for a live configuration: its name, its bytes and its instance
pub carried_added : (it : Saved) (old one two new : List Item) → one ≡ old ++ name_items it.name
    → two ≡ one ++ chunk_items it.config → new ≡ two ++ instance_items it.instance → new ≡ old ++ carried_items it
carried_added it old one two new names bytes rest =
    rest ∙ ap (λ l. l ++ instance_items it.instance) (bytes ∙ ap (λ l. l ++ chunk_items it.config) names)
    ∙ append_assoc (old ++ name_items it.name) (chunk_items it.config) (instance_items it.instance)
    ∙ append_assoc old (name_items it.name) (rest_items it)

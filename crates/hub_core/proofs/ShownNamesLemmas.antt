-- A frame comes to names one after the other.
use Rattle.std.proofs.Common.{◌≡◌, ℕ, Bool, true, false, ◌&&◌, ◌||◌, List, [], ◌∷◌, ◌++◌, Option, Some, None, refl, sym, ap, subst, ◌∙◌, arith, true≢false}
use Rattle.std.specs.Prelude.{if◌then◌else◌}
use Rattle.std.specs.Bool.{MatchBool}
use Rattle.std.specs.List.{sum_by}
use Rattle.std.specs.Map.{keys_of}
use Rattle.id_notes.specs.Noted.{is_named}
use Rattle.client_engine.specs.declared.live_id.LiveId.{LiveId}
use Rattle.hub_core.specs.declared.live_instance.LiveInstance.{LiveInstance}
use Rattle.hub_core.specs.LiveQuestions.{LiveAsks, counted_for, NamesAsk}
use Rattle.hub_core.specs.LoggedFrames.{LoggedFrame}
use Rattle.hub_core.specs.SlotLogs.{IsShown, FoundShown, NamedShown}
use Rattle.hub_core.specs.Slots.{same_id, slot_at}
use Rattle.hub_core.proofs.NamesLemmas.{same_equiv, same_is, named-append, named-push, named_first, named_second, named_last, sum_more, sum_both, sum_on}

module _ (logged : LoggedFrame) where
  -- what became of a slot, whether it was named or not
  abbrev Became : Bool → Option LiveInstance → Option LiveInstance → Type 0
  Became named old new = MatchBool named (FoundShown logged old new) (new ≡ old)

  -- where nothing was named all is as it was
  pub none_shown : (rows : List (LiveId × LiveInstance)) → NamedShown logged [] rows rows
  none_shown rows name = refl

  -- a name whose turn hasn't come has what stood there
  pub still_old : (names : List LiveId) (olds news : List (LiveId × LiveInstance))
      → NamedShown logged names olds news → (name : LiveId) → is_named same_id name names ≡ false
      → slot_at name news ≡ slot_at name olds
  still_old names olds news part name fresh =
      subst (λ b. Became b (slot_at name olds) (slot_at name news)) fresh (part name)

  module _ (names : List LiveId) (name : LiveId) (olds news next : List (LiveId × LiveInstance))
      (fresh : is_named same_id name names ≡ false) (part : NamedShown logged names olds news) where
    -- one more name, under which this stood and that stands
    shown_next : FoundShown logged (slot_at name news) (slot_at name next)
        → ((other : LiveId) → same_id name other ≡ false → slot_at other next ≡ slot_at other news)
        → NamedShown logged (names ++ name ∷ []) olds next
    shown_next here others other = by_case (same_id name other) refl where
      by_case : (b : Bool) → same_id name other ≡ b
          → Became (is_named same_id other (names ++ name ∷ [])) (slot_at other olds) (slot_at other next)
      by_case true is =
          subst (λ (n : LiveId). Became (is_named same_id n (names ++ name ∷ [])) (slot_at n olds) (slot_at n next))
          (same_is name other is)
          (subst (λ b. Became b (slot_at name olds) (slot_at name next)) (sym (named_last name names))
          (subst (λ (o : Option LiveInstance). FoundShown logged o (slot_at name next))
          (still_old names olds news part name fresh) here))
      by_case false is =
          let named : is_named same_id other (names ++ name ∷ []) ≡ is_named same_id other names =
          named-push other names name
          ∙ ap (λ b. is_named same_id other names || b) (same_equiv.symm other name ∙ is)
          ∙ off (is_named same_id other names) in
          subst (λ b. Became b (slot_at other olds) (slot_at other next)) (sym named)
          (subst (λ (o : Option LiveInstance). Became (is_named same_id other names) (slot_at other olds) o)
          (sym (others other is)) (part other)) where
            off : (b : Bool) → (b || false) ≡ b
            off true = refl
            off false = refl

    -- what stands there took the frame
    pub shown_on : (old new : LiveInstance) → slot_at name news ≡ Some old → IsShown logged old new
        → ((other : LiveId) → slot_at other next ≡ (if same_id name other then Some new else slot_at other news))
        → NamedShown logged (names ++ name ∷ []) olds next
    shown_on old new there shows slots =
        let now : slot_at name next ≡ Some new =
        slots name ∙ ap (λ b. if b then Some new else slot_at name news) (same_equiv.refl name) in
        shown_next
        (subst (λ (o : Option LiveInstance). FoundShown logged o (slot_at name next)) (sym there)
        (subst (λ (o : Option LiveInstance). FoundShown logged (Some old) o) (sym now) shows))
        (λ other off. slots other ∙ ap (λ b. if b then Some new else slot_at other news) off)

    -- nothing stands there
    pub shown_past : slot_at name news ≡ None → next ≡ news
        → NamedShown logged (names ++ name ∷ []) olds next
    shown_past none is =
        shown_next
        (subst (λ (o : Option LiveInstance). FoundShown logged o (slot_at name next)) (sym none)
        (subst (λ (o : Option LiveInstance). FoundShown logged None o)
        (sym (ap (slot_at name) is ∙ none)) tt))
        (λ other off. ap (slot_at other) is)

    -- a name more may ask what stands there
    pub asks_on : (it : LiveInstance) (from middle to : ℕ) → slot_at name news ≡ Some it
        → NamesAsk logged names olds from middle
        → LiveAsks logged it middle to
        → NamesAsk logged (names ++ name ∷ []) olds from to
    asks_on it from middle to there so_far asks most each =
        let old_there : slot_at name olds ≡ Some it = sym (still_old names olds news part name fresh) ∙ there in
        let few = so_far most (λ other live named found start end here.
        each other live (named_first other names (name ∷ []) named) found start end here) in
        let one = each name it (named_last name names) old_there middle to asks in
        let total = sum_on most names name it olds fresh old_there in
        omega (arith, few, one, total)

  -- names that ask no more than they may, ask no more with others
  pub asks_more : (names more : List LiveId) (olds : List (LiveId × LiveInstance)) (from to : ℕ)
      → NamesAsk logged names olds from to
      → NamesAsk logged (names ++ more) olds from to
  asks_more names more olds from to asks most each =
      let few = asks most (λ other live named found start end here.
      each other live (named_first other names more named) found start end here) in
      let total = sum_more most names more (keys_of olds) in
      omega (arith, few, total)

  -- where nothing was asked
  pub asks_none : (names : List LiveId) (rows : List (LiveId × LiveInstance)) (from : ℕ)
      → NamesAsk logged names rows from from
  asks_none names rows from most each = omega arith

  -- A frame comes to names, and then to others.
  module _ (names more : List LiveId) (first second : List (LiveId × LiveInstance))
      (apart : (name : LiveId) → (is_named same_id name names && is_named same_id name more) ≡ false)
      (one : NamedShown logged names first second) where
    pub shown_both : (third : List (LiveId × LiveInstance)) → NamedShown logged more second third
        → NamedShown logged (names ++ more) first third
    shown_both third other name =
        subst (λ b. Became b (slot_at name first) (slot_at name third)) (sym (named-append name names more))
        (by_case (is_named same_id name names) (is_named same_id name more) (apart name) (slot_at name first)
        (slot_at name second) (slot_at name third) (one name) (other name)) where
          by_case : (here there : Bool) → (here && there) ≡ false → (a b c : Option LiveInstance) → Became here a b
              → Became there b c → Became (here || there) a c
          by_case true true off a b c x y = absurd (true≢false off)
          by_case true false off a b c x y =
              subst (λ (o : Option LiveInstance). FoundShown logged a o) (sym y) x
          by_case false true off a b c x y =
              subst (λ (o : Option LiveInstance). FoundShown logged o c) x y
          by_case false false off a b c x y = y ∙ x

    pub asks_both : (from middle to : ℕ) → keys_of second ≡ keys_of first
        → NamesAsk logged names first from middle
        → NamesAsk logged more second middle to
        → NamesAsk logged (names ++ more) first from to
    asks_both from middle to keys asks others most each =
        let few = asks most (λ name live named found start end here.
        each name live (named_first name names more named) found start end here) in
        let later = others most (λ name live named found start end here.
        let fresh : is_named same_id name names ≡ false =
        not_both (is_named same_id name names) (is_named same_id name more) (apart name) named in
        each name live (named_second name names more named)
        (sym (still_old names first second one name fresh) ∙ found) start end here) in
        let same : sum_by (counted_for more most) (keys_of second) ≡ sum_by (counted_for more most) (keys_of first) =
        ap (sum_by (counted_for more most)) keys in
        let total = sum_both most names more (keys_of first) apart in
        omega (arith, few, later, same, total) where
          not_both : (here there : Bool) → (here && there) ≡ false → there ≡ true → here ≡ false
          not_both true there off on = absurd (true≢false (sym on ∙ off))
          not_both false there off on = refl

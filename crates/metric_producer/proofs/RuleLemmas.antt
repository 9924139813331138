-- Calls that may come from a standing on are admitted after the calls that led there.
use Rattle.std.proofs.Common.{◌≡◌, ◌<◌, List, [], ◌∷◌, ◌++◌, refl, sym, subst, append_assoc, append-nil, arith}
use Rattle.bucket_meaning.proofs.EndsLemmas.{crosses-le}
use Rattle.bucket_meaning.specs.Limits.{time_limit}
use Rattle.bucket_clock.specs.declared.crossings.Crossings.{Crossings}
use Rattle.bucket_clock.specs.Clock.{last_end}
use Rattle.metric_producer.specs.Calls.{Call, Demands, Standing, after_call, standing_from, standing_of, first_standing}
use Rattle.metric_producer.specs.Rules.{IsAnswer, MayCome, IsAdmitted, AreAdmitted, AreTold}

module _ {Event After : Type 0} (demands : Demands Event After) where
  -- each of the calls may come where it comes, from a standing on
  abbrev pub MayComeAll : Standing → List (Call Event After) → Type 0
  MayComeAll standing [] = Unit {0}
  MayComeAll standing (call ∷ calls) = MayCome demands standing call
      × MayComeAll (after_call demands standing call) calls

  -- how far two lists of calls come
  pub standing_from-append : (standing : Standing) (calls more : List (Call Event After))
      → standing_from demands standing (calls ++ more)
      ≡ standing_from demands (standing_from demands standing calls) more
  standing_from-append standing [] more = refl
  standing_from-append standing (call ∷ calls) more =
      standing_from-append (after_call demands standing call) calls more

  -- calls that may come, and others that may come after them
  pub may_come-append : (standing : Standing) (calls more : List (Call Event After))
      → MayComeAll standing calls → MayComeAll (standing_from demands standing calls) more
      → MayComeAll standing (calls ++ more)
  may_come-append standing [] more may others = others
  may_come-append standing (call ∷ calls) more may others =
      (may.0, may_come-append (after_call demands standing call) calls more may.1 others)

  -- the calls that come first may come
  pub may_come-front : (standing : Standing) (calls more : List (Call Event After))
      → MayComeAll standing (calls ++ more) → MayComeAll standing calls
  may_come-front standing [] more may = tt
  may_come-front standing (call ∷ calls) more may =
      (may.0, may_come-front (after_call demands standing call) calls more may.1)

  -- those after them may come, too
  pub may_come-back : (standing : Standing) (calls more : List (Call Event After))
      → MayComeAll standing (calls ++ more) → MayComeAll (standing_from demands standing calls) more
  may_come-back standing [] more may = may
  may_come-back standing (call ∷ calls) more may = may_come-back (after_call demands standing call) calls more may.1

  -- calls that may come where others led, and tell what may be told, are admitted after these
  pub admitted : (before calls : List (Call Event After))
      → MayComeAll (standing_of demands before) calls → AreTold demands before calls
      → AreAdmitted demands before calls
  admitted before [] may told = tt
  admitted before (call ∷ calls) may told = (
    (may.0, told.0),
    admitted (before ++ call ∷ []) calls
        (subst (λ s. MayComeAll s calls)
        (sym (standing_from-append (first_standing demands) before (call ∷ []))) may.1) told.1,
  )

  -- and the other way round
  pub may_come : (before calls : List (Call Event After))
      → AreAdmitted demands before calls → MayComeAll (standing_of demands before) calls
  may_come before [] all = tt
  may_come before (call ∷ calls) all = (
    all.0.0,
    subst (λ s. MayComeAll s calls) (standing_from-append (first_standing demands) before (call ∷ []))
        (may_come (before ++ call ∷ []) calls all.1),
  )

  -- one more call
  pub admits-push : (before calls : List (Call Event After)) (call : Call Event After)
      → AreAdmitted demands before calls → IsAdmitted demands (before ++ calls) call
      → AreAdmitted demands before (calls ++ call ∷ [])
  admits-push before [] call all may = (subst (λ b. IsAdmitted demands b call) (append-nil before) may, tt)
  admits-push before (first ∷ calls) call all may = (
    all.0,
    admits-push (before ++ first ∷ []) calls call all.1
        (subst (λ b. IsAdmitted demands b call) (sym (append_assoc before (first ∷ []) calls)) may),
  )

  -- what is admitted, by its two parts
  pub admits-append : (before calls more : List (Call Event After))
      → AreAdmitted demands before calls → AreAdmitted demands (before ++ calls) more
      → AreAdmitted demands before (calls ++ more)
  admits-append before [] more all others = subst (λ b. AreAdmitted demands b more) (append-nil before) others
  admits-append before (first ∷ calls) more all others = (
    all.0,
    admits-append (before ++ first ∷ []) calls more all.1
        (subst (λ b. AreAdmitted demands b more) (sym (append_assoc before (first ∷ []) calls)) others),
  )

  -- what two lists of calls tell
  pub told-append : (before calls more : List (Call Event After)) → AreTold demands before calls
      → AreTold demands (before ++ calls) more → AreTold demands before (calls ++ more)
  told-append before [] more told others = subst (λ b. AreTold demands b more) (append-nil before) others
  told-append before (first ∷ calls) more told others = (
    told.0,
    told-append (before ++ first ∷ []) calls more told.1
        (subst (λ b. AreTold demands b more) (sym (append_assoc before (first ∷ []) calls)) others),
  )

  -- what the second of them tells
  pub told-back : (before calls more : List (Call Event After)) → AreTold demands before (calls ++ more)
      → AreTold demands (before ++ calls) more
  told-back before [] more told = subst (λ b. AreTold demands b more) (sym (append-nil before)) told
  told-back before (first ∷ calls) more told =
      subst (λ b. AreTold demands b more) (append_assoc before (first ∷ []) calls)
      (told-back (before ++ first ∷ []) calls more told.1)

  -- a crossing's last end fits
  pub answer_fits : (standing : Standing) (crossings : Crossings) → IsAnswer demands standing crossings
      → last_end crossings < time_limit
  answer_fits standing crossings may =
      let reached = crosses-le may.moment (last_end crossings) (may.answer.reached) in
      omega (arith, reached, may.fits)

  -- the first part of what is admitted
  pub admits-front : (before calls more : List (Call Event After))
      → AreAdmitted demands before (calls ++ more) → AreAdmitted demands before calls
  admits-front before [] more all = tt
  admits-front before (first ∷ calls) more all = (all.0, admits-front (before ++ first ∷ []) calls more all.1)

  -- and the second one
  pub admits-back : (before calls more : List (Call Event After))
      → AreAdmitted demands before (calls ++ more) → AreAdmitted demands (before ++ calls) more
  admits-back before [] more all = subst (λ b. AreAdmitted demands b more) (sym (append-nil before)) all
  admits-back before (first ∷ calls) more all =
      subst (λ b. AreAdmitted demands b more) (append_assoc before (first ∷ []) calls)
      (admits-back (before ++ first ∷ []) calls more all.1)

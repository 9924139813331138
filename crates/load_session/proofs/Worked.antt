-- Worked sessions, by computing.
use Rattle.std.proofs.Common.{◌≡◌, true, false, [], ◌∷◌, Some, None, slice_get, refl, pos}
use Rattle.load_session.specs.declared.frame.LoadFrame.TheVariants.{Tick, Int5, Install, Report}
use Rattle.load_session.specs.Numbers.{next_number}
use Rattle.load_session.specs.Frames.{load_frames, logged, reports_after}

-- no step: both clients install and ask for a report
no_step : load_frames 7 0
    ≡ Install (pos 10) ∷ Install (pos 20) ∷ Report (pos 10) true ∷ Report (pos 20) true ∷ []
unfolding load_frames
no_step = refl

-- one step of seed 0: its atom comes at 807 milliseconds, with value 1
one_step : load_frames 0 1
    ≡ Install (pos 10) ∷ Install (pos 20) ∷ Int5 807000000 (pos 1) ∷ Report (pos 10) true ∷ Report (pos 20) true ∷ []
unfolding load_frames next_number
one_step = refl

third_frame : slice_get (load_frames 0 1) 2 ≡ Some (Int5 807000000 (pos 1))
unfolding load_frames next_number
third_frame = refl

last_frame : slice_get (load_frames 0 1) 4 ≡ Some (Report (pos 20) true)
unfolding load_frames next_number
last_frame = refl

past_the_last : slice_get (load_frames 0 1) 5 ≡ None
unfolding load_frames next_number
past_the_last = refl

-- time passes where four divides the draw, and an atom has the draw's thousands in fifty
tick : logged 52004 9 ≡ Tick 9
tick = refl

atom : logged 52003 9 ≡ Int5 9 (pos 2)
atom = refl

-- both clients ask for a report after each thousandth step, without the open bucket
after_a_thousand : reports_after 2000 ≡ Report (pos 10) false ∷ Report (pos 20) false ∷ []
after_a_thousand = refl

after_the_next : reports_after 2001 ≡ []
after_the_next = refl

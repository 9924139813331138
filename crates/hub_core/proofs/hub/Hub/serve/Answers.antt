-- Each kind of frame: the hub stands for the frames with it, and its answer is theirs.
use Rattle.std.proofs.Common.{◌≤◌, ◌+◌, None, sym, SFits, w32, w64, rules, subst}
use Rattle.std.proofs.lemmas.Int.{to_z-of_z}
use Rattle.session_frames.specs.declared.frame.Frame.TheVariants.{Log}
use Rattle.session_frames.specs.Frames.{IsInTime}
use Rattle.hub_meaning.specs.SessionLog.{clock_of}
use Rattle.hub_core.specs.HubStands.{UnheardStay}
use Rattle.hub_core.specs.LiveQuestions.{questions_in}
use Rattle.hub_core.proofs.HubStandsLemmas.{serves_as, served_log}
use Rattle.hub_core.proofs.hub.Hub.serve.Goals as goal

pub returns-in_ok-log-in-Log-clause-serves : goal.returns-in_ok-log-in-Log-clause-serves
returns-in_ok-log-in-Log-clause-serves g c = λ frames h in_time.
    serves_as g.J.Judge.says _ frames c.args.frame (Log c.in-Log.frame) None c.in-Log.is
    (served_log g.J.Judge.says c.args.self.now _ frames h c.in-Log.frame
    (c.in_ok-log-in-Log.ensures.stands frames h (subst (IsInTime (clock_of frames)) c.in-Log.is in_time)))

pub returns-in_ok-body-in-Install-clause-serves : goal.returns-in_ok-body-in-Install-clause-serves
returns-in_ok-body-in-Install-clause-serves g c =
    let uid_fits : SFits w32 c.in-Install.uid = search rules in
    let id_fits : SFits w64 c.in-Install.id = search rules in
    let serves = simp to_z-of_z at c.in_ok-body-in-Install.ensures.serves in
    simp to_z-of_z (λ frames h in_time.
    serves_as g.J.Judge.says _ frames c.args.frame _ _ c.in-Install.is (serves frames h))

pub returns-in_ok-body-in-Remove-clause-serves : goal.returns-in_ok-body-in-Remove-clause-serves
returns-in_ok-body-in-Remove-clause-serves g c =
    let uid_fits : SFits w32 c.in-Remove.uid = search rules in
    let id_fits : SFits w64 c.in-Remove.id = search rules in
    let serves = simp to_z-of_z at c.in_ok-body-in-Remove.ensures.serves in
    simp to_z-of_z (λ frames h in_time.
    serves_as g.J.Judge.says _ frames c.args.frame _ _ c.in-Remove.is (serves frames h))

pub returns-in_ok-body-in-Report-clause-serves : goal.returns-in_ok-body-in-Report-clause-serves
returns-in_ok-body-in-Report-clause-serves g c =
    let uid_fits : SFits w32 c.in-Report.uid = search rules in
    let id_fits : SFits w64 c.in-Report.id = search rules in
    let serves = simp to_z-of_z at c.in_ok-body-in-Report.ensures.serves in
    simp to_z-of_z (λ frames h in_time.
    serves_as g.J.Judge.says _ frames c.args.frame _ _ c.in-Report.is (serves frames h))

-- a frame of the log asks no more than its questions
pub returns-in_ok-log-in-Log-clause-questions : goal.returns-in_ok-log-in-Log-clause-questions
returns-in_ok-log-in-Log-clause-questions g c = λ frames h in_time.
    subst (λ f. c.log.new.asks ≤ c.args.asks.now + questions_in g.J.Judge.says c.args.self.now
    frames f) (sym c.in-Log.is)
    (c.log.ensures.questions frames h (subst (IsInTime (clock_of frames)) c.in-Log.is in_time))

-- also where memory is wanting
pub returns-in_err-log-in-Log-clause-questions : goal.returns-in_err-log-in-Log-clause-questions
returns-in_err-log-in-Log-clause-questions g c = λ frames h in_time.
    subst (λ f. c.log.new.asks ≤ c.args.asks.now + questions_in g.J.Judge.says c.args.self.now
    frames f) (sym c.in-Log.is)
    (c.log.ensures.questions frames h (subst (IsInTime (clock_of frames)) c.in-Log.is in_time))

-- what doesn't hear a frame of the log is as it was
pub returns-in_ok-log-in-Log-clause-asleep : goal.returns-in_ok-log-in-Log-clause-asleep
returns-in_ok-log-in-Log-clause-asleep g c =
    subst (λ f. UnheardStay f c.args.self.now c.log.new.self) (sym c.in-Log.is) c.in_ok-log-in-Log.ensures.asleep

-- and a command is heard by none
pub returns-in_ok-body-in-Install-clause-asleep : goal.returns-in_ok-body-in-Install-clause-asleep
returns-in_ok-body-in-Install-clause-asleep g c =
    subst (λ f. UnheardStay f c.args.self.now c.install.new.self) (sym c.in-Install.is) tt

pub returns-in_ok-body-in-Remove-clause-asleep : goal.returns-in_ok-body-in-Remove-clause-asleep
returns-in_ok-body-in-Remove-clause-asleep g c =
    subst (λ f. UnheardStay f c.args.self.now c.remove.new.self) (sym c.in-Remove.is) tt

pub returns-in_ok-body-in-Report-clause-asleep : goal.returns-in_ok-body-in-Report-clause-asleep
returns-in_ok-body-in-Report-clause-asleep g c =
    subst (λ f. UnheardStay f c.args.self.now c.report.new.self) (sym c.in-Report.is) tt

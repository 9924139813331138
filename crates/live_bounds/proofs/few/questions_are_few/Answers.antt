-- The laws of the definitions, of a hub whose names are apart.
use Rattle.live_bounds.proofs.QuestionsWithin.{conditions_within, judge_within}
use Rattle.live_bounds.proofs.few.questions_are_few.Goals as goal

pub returns-clause-conditions : goal.returns-clause-conditions
returns-clause-conditions g c = λ frames frame stands.
    conditions_within g.J.Judge.says c.args.hub.now frames c.show_live.ensures.apart stands frame

pub returns-clause-judge : goal.returns-clause-judge
returns-clause-judge g c = λ frames frame stands.
    judge_within g.J.Judge.says c.args.hub.now frames c.show_live.ensures.apart stands frame

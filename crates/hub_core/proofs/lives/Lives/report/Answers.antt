-- What was reported is the answer.
use Rattle.hub_core.proofs.lives.Lives.report.Goals as goal

pub returns : goal.returns
returns c = record {
  report = c.in_ok-lives.report;
  slots = c.in_ok-lives.ensures.reports;
  counts = c.in_ok-lives.ensures.counts;
  answer = c.report_answer.ensures;
}

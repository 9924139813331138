-- The live configurations as the hub holds them, and what a command makes of them.
use Rattle.std.specs.Prelude.{◌≡◌, ℕ, ◌+◌, ℤ, List, Option, Some, None, is_some, Result, Ok, Err, nat_le, if◌then◌else◌}
use Rattle.std.specs.Bool.{MatchBool}
use Rattle.std.specs.Option.{MatchOption}
use Rattle.std.specs.Ordering.{int_eq}
use Rattle.bucket_meaning.specs.Ends.{Moment}
use Rattle.config_types.specs.declared.config.Config.{Config}
use Rattle.session_frames.specs.declared.reply.Refusal.{Refusal}
use Rattle.session_frames.specs.declared.reply.ReplyBody.{ReplyBody}
use Rattle.session_frames.specs.declared.reply.ReplyBody.TheVariants as answers
use Rattle.config_links.specs.declared.linked.Linked.{Linked}
use Rattle.hub_meaning.specs.Acceptance.{most_configs, linked_read}
use Rattle.atom_record.specs.declared.log.LogFrame.{LogFrame}
use Rattle.client_engine.specs.Handed.{BookOfStates}
use Rattle.client_engine.specs.InstanceStands.{IsFresh}
use Rattle.client_engine.specs.declared.request.ReportRequest.{ReportRequest}
use Rattle.hub_core.specs.declared.books.Books.{Books}
use Rattle.hub_core.specs.declared.configs.Accepted.{Accepted}
use Rattle.hub_core.specs.BookStands.{BooksStandFor}
use Rattle.hub_core.specs.Sleeping.{ReportsAwake}
use Rattle.client_engine.specs.declared.live_id.LiveId.{LiveId}
use Rattle.hub_core.specs.declared.live_instance.LiveInstance.{LiveInstance}
use Rattle.hub_core.specs.declared.lives.Lives.{Lives}
use Rattle.report_writer.specs.declared.tree.ReportTree.{ReportTree}
use Rattle.report_writer.specs.ReportSpelling.{report_message}
use Rattle.hub_core.specs.Slots.{last_asked, slot_at, SetsSlot, count_at, others_at, ReportsAt}

-- What a command makes of the live configurations: what they were, what they are, and its answer.
pub record Change : Type 0 where
  pub old : Lives
  pub new : Lives
  pub body : ReplyBody

-- from these to those, with this answer
abbrev pub change : Lives → Lives → ReplyBody → Change
change old new body = record { old = old; new = new; body = body }

-- One slot changes, and its client's count; all other slots and counts stay.
pub record Changes (name : LiveId) (slot : Option LiveInstance) (count : ℕ) (old new : Lives) : Type 0 where
  pub slots : SetsSlot name slot old.slots.entries new.slots.entries
  pub counts : (client : ℤ) → count_at client new.counts.entries
      ≡ (if int_eq name.uid client then count else count_at client old.counts.entries)

-- what is found under a name
abbrev pub held_at : LiveId → Lives → Option LiveInstance
held_at name lives = slot_at name lives.slots.entries

-- how many of other ids its client has
abbrev pub others : LiveId → Lives → ℕ
others name lives = others_at name.uid (is_some (held_at name lives)) lives.counts.entries

-- nothing changes
pub record Stays (old new : Lives) : Type 0 where
  pub slots : new.slots.entries ≡ old.slots.entries
  pub counts : new.counts ≡ old.counts

-- nothing changes, and this is the answer
pub record StaysWith (given : ReplyBody) (done : Change) : Type 0 where
  pub stays : Stays done.old done.new
  pub answer : done.body ≡ given

-- A configuration is ended by a command, which is answered with its last report: the one that a report with a cut would
-- give before the command, at the time of the last frame.
pub record IsEnded (moment : Moment) (book : BookOfStates) (name : LiveId) (live : LiveInstance)
    (told : List ℕ → ReplyBody) (body : ReplyBody) : Type 0 where
  pub next : LiveInstance
  pub tree : ReportTree
  pub steps : ReportsAwake moment live.carried.instance (last_asked name moment.at) book next.carried.instance tree
  pub answer : body ≡ told (report_message tree)

-- what stands under a name is replaced, or nothing stands there
abbrev pub Replaces : Moment → BookOfStates → LiveId → Option LiveInstance → ReplyBody → Type 0
Replaces moment book name slot body =
    MatchOption slot (body ≡ answers.Installed) (λ live. IsEnded moment book name live answers.Replaced body)

-- the answer to an install that wasn't refused, by the last report of what stood under its name
abbrev pub body_of_install : Option (List ℕ) → ReplyBody
body_of_install None = answers.Installed
body_of_install (Some last) = answers.Replaced last

-- the answer to a remove, by the last report of what stood under its name
abbrev pub body_of_remove : Option (List ℕ) → ReplyBody
body_of_remove None = answers.NoConfig
body_of_remove (Some last) = answers.Removed last

-- the answer to a report, by what was reported
abbrev pub body_of_report : Option (List ℕ) → ReplyBody
body_of_report None = answers.NoConfig
body_of_report (Some report) = answers.ReportBytes report

-- A configuration goes in under its name with its bytes, installed when the clock and the books stood so.
pub record GoesIn (base : ℕ) (books : Books) (accepted : Accepted) (old new : Lives) : Type 0 where
  pub fresh : LiveInstance
  pub is_fresh : (opening : List LogFrame) → BooksStandFor books opening
      → IsFresh accepted.linked base opening fresh.carried.instance
  pub config : fresh.carried.config ≡ accepted.config
  pub changes : Changes accepted.name (Some fresh) (others accepted.name old + 1) old new

-- A configuration that wasn't refused goes where the one of its name stands, whose last report is the answer, or it is
-- new.
pub record PutsIn (moment : Moment) (books : Books) (accepted : Accepted) (done : Change) : Type 0 where
  pub goes : GoesIn moment.at books accepted done.old done.new
  pub answer : Replaces moment books.states accepted.name (held_at accepted.name done.old) done.body

-- a configuration without faults, of these parts
abbrev pub accepted_of : LiveId → List ℕ → Linked → Accepted
accepted_of name bytes linked = record { name = name; config = bytes; linked = linked }

-- an install of these bytes with room for it, when this was the last frame and the books stood so and this is the
-- linked form
abbrev pub InstallsLinked : Moment → Books → LiveId → List ℕ → Result Linked Refusal → Change → Type 0
InstallsLinked moment books name bytes (Err refusal) done = StaysWith (answers.Refused refusal) done
InstallsLinked moment books name bytes (Ok linked) done = PutsIn moment books (accepted_of name bytes linked) done

-- an install of these bytes, when this was the last frame and the books stood so and this was read: a full client is
-- told so before the references are judged
abbrev pub Installs : Moment → Books → LiveId → List ℕ → Result Config Refusal → Change → Type 0
Installs moment books name bytes (Err refusal) done = StaysWith (answers.Refused refusal) done
Installs moment books name bytes (Ok config) done =
    MatchBool (nat_le most_configs (others name done.old)) (StaysWith (answers.ClientFull most_configs) done)
    (InstallsLinked moment books name bytes (linked_read name.uid config) done)

-- One is taken out, and its last report is the answer.
pub record TakesOut (moment : Moment) (book : BookOfStates) (name : LiveId) (live : LiveInstance) (done : Change)
    : Type 0 where
  pub changes : Changes name None (others name done.old) done.old done.new
  pub answer : IsEnded moment book name live answers.Removed done.body

-- a remove, when this was the last frame and the book of states stood so
abbrev pub Removes : Moment → BookOfStates → LiveId → Change → Type 0
Removes moment book name done =
    MatchOption (held_at name done.old) (StaysWith answers.NoConfig done) (λ live. TakesOut moment book name live done)

-- A report of what stands under a name, which is the answer; the counts stay.
pub record ReportsLive (moment : Moment) (request : ReportRequest) (book : BookOfStates) (done : Change) : Type 0 where
  pub report : Option (List ℕ)
  pub slots : ReportsAt moment request book done.old.slots.entries done.new.slots.entries report
  pub counts : done.new.counts ≡ done.old.counts
  pub answer : done.body ≡ body_of_report report

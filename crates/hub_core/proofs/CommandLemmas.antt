-- A configuration that goes in under its name, or is taken out.
use Rattle.bucket_meaning.specs.Ends.{Moment}
use Rattle.std.proofs.Common.{◌≡◌, ℕ, ◌+◌, ℤ, true, false, cond, List, Option, Some, None, is_some, Result, Ok, Err, refl, sym, ap, subst, ◌∙◌}
use Rattle.std.specs.Prelude.{nat_le, IfOk}
use Rattle.std.specs.Bool.{MatchBool}
use Rattle.std.specs.Option.{MatchOption}
use Rattle.std.proofs.lemmas.Bool.{false≢true}
use Rattle.std.specs.Ordering.{int_eq}
use Rattle.config_types.specs.declared.config.Config.{Config}
use Rattle.session_frames.specs.declared.reply.ReplyBody.{ReplyBody}
use Rattle.session_frames.specs.declared.reply.ReplyBody.TheVariants as answers
use Rattle.hub_core.specs.declared.books.Books.{Books}
use Rattle.hub_core.specs.declared.configs.Accepted.{Accepted}
use Rattle.client_engine.specs.declared.live_id.LiveId.{LiveId}
use Rattle.hub_core.specs.declared.live_instance.LiveInstance.{LiveInstance}
use Rattle.hub_core.specs.declared.lives.Lives.{Lives}
use Rattle.hub_meaning.specs.Acceptance.{most_configs, linked_read}
use Rattle.hub_core.specs.BookStands.{BooksStandFor}
use Rattle.hub_core.specs.Slots.{last_asked, same_id, slot_at, count_at, others_at, ReportsAt}
use Rattle.atom_record.specs.declared.log.LogFrame.{LogFrame}
use Rattle.client_engine.specs.Handed.{BookOfStates}
use Rattle.client_engine.specs.InstanceStands.{IsFresh}
use Rattle.hub_core.specs.Commands.{change, held_at, others, Changes, StaysWith, Replaces, GoesIn, PutsIn, InstallsLinked, Installs, TakesOut, Removes, body_of_install, body_of_remove}
use Rattle.hub_core.proofs.LastReportLemmas.{still_there, hides_old, replaces_old, removes_old}

-- What a command makes of the live configurations once what it ends was reported, if something was.
module _ (moment : Moment) (book : BookOfStates) (name : LiveId) (old reported new : Lives) (last : Option (List ℕ))
    (report : ReportsAt moment (last_asked name moment.at) book old.slots.entries reported.slots.entries last)
    (counts : reported.counts ≡ old.counts) where
  -- the others of its client are as many as before
  pub same_others : others name reported ≡ others name old
  same_others =
      ap (λ b. others_at name.uid b reported.counts.entries)
      (still_there moment book name old.slots.entries reported.slots.entries last report)
      ∙ ap (λ (c : _). others_at name.uid (is_some (held_at name old)) c.entries) counts

  -- a change after the report is one before it
  after_report : (slot : Option LiveInstance) (count : ℕ) → Changes name slot count reported new
      → Changes name slot count old new
  after_report slot count done = record {
    slots = λ other.
        done.slots other ∙ hides_old moment book name old.slots.entries reported.slots.entries last report slot other;
    counts = λ client.
        done.counts client
        ∙ ap (λ (c : _). cond (int_eq name.uid client) count (count_at client c.entries)) counts;
  }

  -- what goes in replaces what was reported
  pub puts_in : (books : Books) (accepted : Accepted) → accepted.name ≡ name → (body : ReplyBody)
      → books.states ≡ book → GoesIn moment.at books accepted reported new → body ≡ body_of_install last
      → PutsIn moment books accepted (change old new body)
  puts_in books accepted own body same goes is = record {
    goes = record {
      fresh = goes.fresh;
      is_fresh = goes.is_fresh;
      config = goes.config;
      changes = subst (λ named. Changes named (Some goes.fresh) (others named old + 1) old new) (sym own)
          (after_report (Some goes.fresh) (others name old + 1)
          (subst (λ n. Changes name (Some goes.fresh) (n + 1) reported new) same_others
          (subst (λ named. Changes named (Some goes.fresh) (others named reported + 1) reported new) own
          goes.changes)));
    };
    answer = subst (λ named. Replaces moment books.states named (held_at named old) body) (sym own)
        (subst (λ states. Replaces moment states name (held_at name old) body) (sym same)
        (replaces_old moment book name old.slots.entries reported.slots.entries last report body is));
  }

  -- what stood under the name is taken out
  pub takes_out : (body : ReplyBody) → is_some (held_at name old) ≡ true
      → Changes name None (others name reported) reported new → body ≡ body_of_remove last
      → Removes moment book name (change old new body)
  takes_out body there done is = by_slot (held_at name old) refl there where
    by_slot : (slot : Option LiveInstance) → held_at name old ≡ slot → is_some slot ≡ true
        → MatchOption slot (StaysWith answers.NoConfig (change old new body))
        (λ live. TakesOut moment book name live (change old new body))
    by_slot None e absent = absurd (false≢true absent)
    by_slot (Some live) e held = record {
      changes = after_report None (others name old)
          (subst (λ n. Changes name None n reported new) same_others done);
      answer = removes_old moment book name old.slots.entries reported.slots.entries last report live e body is;
    }

-- what came in, installed just now, is put in under its name
pub goes_in : {E : Type 0} (base : ℕ) (books : Books) (accepted : Accepted) (old : Lives)
    (fresh : LiveInstance) (result : Result Lives E)
    → ((opening : List LogFrame) → BooksStandFor books opening
    → IsFresh accepted.linked base opening fresh.carried.instance) → fresh.carried.config ≡ accepted.config
    → IfOk result (λ lives. (other : LiveId) → slot_at other lives.slots.entries
    ≡ cond (same_id accepted.name other) (Some fresh) (slot_at other old.slots.entries))
    → IfOk result (λ lives. (client : ℤ) → count_at client lives.counts.entries
    ≡ cond (int_eq accepted.name.uid client) (others accepted.name old + 1) (count_at client old.counts.entries))
    → IfOk result (GoesIn base books accepted old)
goes_in base books accepted old fresh (Err e) is_fresh config slots counts = tt
goes_in base books accepted old fresh (Ok lives) is_fresh config slots counts = record {
  fresh = fresh;
  is_fresh = is_fresh;
  config = config;
  changes = record { slots = slots; counts = counts };
}

-- what goes in with room for it, and without a refusal, is installed
pub installs : {E : Type 0} (moment : Moment) (books : Books) (accepted : Accepted) (decoded : Config) (old : Lives)
    (result : Result (Lives × ReplyBody) E) → nat_le most_configs (others accepted.name old) ≡ false
    → linked_read accepted.name.uid decoded ≡ Ok accepted.linked
    → IfOk result (λ r. PutsIn moment books accepted (change old r.0 r.1))
    → IfOk result (λ r. Installs moment books accepted.name accepted.config (Ok decoded) (change old r.0 r.1))
installs moment books accepted decoded old (Err e) room is puts = tt
installs moment books accepted decoded old (Ok r) room is puts =
    let done = change old r.0 r.1 in
    let read = linked_read accepted.name.uid decoded in
    subst (λ full. MatchBool full (StaysWith (answers.ClientFull most_configs) done)
    (InstallsLinked moment books accepted.name accepted.config read done)) (sym room)
    (subst (λ read. InstallsLinked moment books accepted.name accepted.config read done) (sym is) puts)

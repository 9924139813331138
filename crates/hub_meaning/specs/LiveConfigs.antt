-- The live configurations of a client, and their histories, by the client's own frames.
use Rattle.std.specs.Prelude.{ℕ, suc, ℤ, Bool, List, [], ◌∷◌, ◌++◌, length, take, drop, filter, Option, Some, None, Result, Ok, Err, if◌then◌else◌}
use Rattle.std.specs.Ordering.{int_eq}
use Rattle.sd_base.specs.Outputs.{outputs_after}
use Rattle.atom_record.specs.declared.atom.Atom.{Atom}
use Rattle.atom_record.specs.declared.log.LogFrame.{LogFrame}
use Rattle.atom_record.specs.declared.log.LogFrame.TheVariants.{AtomAt}
use Rattle.config_types.specs.declared.config.Config.{Config}
use Rattle.config_types.specs.declared.matcher.SimpleMatcher.{SimpleMatcher}
use Rattle.session_frames.specs.declared.frame.Frame.{Frame}
use Rattle.session_frames.specs.declared.frame.Frame.TheVariants.{Log, Install, Remove, Report}
use Rattle.session_frames.specs.declared.reply.ReplyBody.{ReplyBody}
use Rattle.session_frames.specs.Frames.{log_time}
use Rattle.config_links.specs.declared.linked.Linked.{Linked}
use Rattle.config_links.specs.Verdict.{linked_form}
use Rattle.matcher_truths.specs.MatcherTruths.{all_truths}
use Rattle.metric_meaning.specs.Histories.{Logged, Reported, Step, History}
use Rattle.hub_meaning.specs.SessionLog.{log_frames, clock_of}
use Rattle.hub_meaning.specs.Acceptance.{LiveConfig, has_other_id, acceptance}

-- a configuration goes where the one of its id stands, or after all
abbrev pub with_config : LiveConfig → List LiveConfig → List LiveConfig
with_config new [] = new ∷ []
with_config new (old ∷ others) = if int_eq old.id new.id then new ∷ others else old ∷ with_config new others

-- a configuration is taken out
abbrev pub without_id : ℤ → List LiveConfig → List LiveConfig
without_id id configs = filter (has_other_id id) configs

-- the configuration of an id
abbrev pub config_at : ℤ → List LiveConfig → Option LiveConfig
config_at id [] = None
config_at id (config ∷ others) = if int_eq config.id id then Some config else config_at id others

-- what is live after an install: a refused one changes nothing
abbrev pub live_with : ℕ → ℤ → Result Config ReplyBody → List LiveConfig → List LiveConfig
live_with place id (Ok config) configs = with_config (record { id = id; config = config; place = place }) configs
live_with place id (Err refusal) configs = configs

-- what is live after a frame, where these own frames came before it
abbrev pub live_after : List Frame → Frame → List LiveConfig → List LiveConfig
live_after before (Log frame) configs = configs
live_after before (Install uid id bytes) configs =
    live_with (length before) id (acceptance uid id bytes configs) configs
live_after before (Remove uid id) configs = without_id id configs
live_after before (Report uid id include_current) configs = configs

-- what is live after these frames, where others came before them
abbrev pub live_from : List Frame → List LiveConfig → List Frame → List LiveConfig
live_from before configs [] = configs
live_from before configs (frame ∷ frames) = live_from (before ++ frame ∷ []) (live_after before frame configs) frames

-- the live configurations of a client with these own frames
abbrev pub live : List Frame → List LiveConfig
live frames = live_from [] [] frames

-- the bytes that an install brings; another frame brings none
abbrev pub installed_bytes : Frame → List ℕ
installed_bytes (Log frame) = []
installed_bytes (Install uid id bytes) = bytes
installed_bytes (Remove uid id) = []
installed_bytes (Report uid id include_current) = []

-- the bytes that the first of these frames brings, if there is one
abbrev pub first_bytes : List Frame → List ℕ
first_bytes [] = []
first_bytes (frame ∷ frames) = installed_bytes frame

-- the bytes of the frame that installed a live configuration of a client with these own frames
abbrev pub install_bytes : List Frame → LiveConfig → List ℕ
install_bytes frames live = first_bytes (drop live.place frames)

-- What a judge says of simple matchers and atoms is a parameter of all that speaks of truths.
module _ (says : SimpleMatcher → Atom → Bool) where
  -- the truths that a frame is handed in with: those of all matchers for an atom, and none for another frame
  abbrev pub truths_at : Linked → LogFrame → List Bool
  truths_at linked (AtomAt at atom) = all_truths says atom linked.matchers
  truths_at linked _ = []

  -- the step that a frame is to a configuration: each frame of the log is one, and each report of its id, at the clock
  abbrev pub step_at : ℤ → Linked → List Frame → Frame → List Step
  step_at id linked before (Log frame) =
      record { at = log_time frame; what = Logged frame; truths = truths_at linked frame } ∷ []
  step_at id linked before (Install uid of bytes) = []
  step_at id linked before (Remove uid of) = []
  step_at id linked before (Report uid of include_current) =
      if int_eq of id then record { at = clock_of before; what = Reported include_current; truths = [] } ∷ [] else []

  -- what a live configuration of a client has seen, by the client's own frames: its base is the clock at its install,
  -- and its opening the log up to that
  abbrev pub history_of : ℤ → List Frame → LiveConfig → History
  history_of client frames live =
      let linked = linked_form live.config client in
      record {
        installed = record {
          base = clock_of (take live.place frames);
          opening = log_frames (take (suc live.place) frames);
          linked = linked;
        };
        steps =
            outputs_after (step_at live.id linked) (take (suc live.place) frames) (drop (suc live.place) frames);
      }

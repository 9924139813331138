-- What a session weighs after its frames: its saved form has no more bytes. The number of frames doesn't occur.
use Rattle.std.specs.Prelude.{ℕ, ℤ, ◌+◌, Bool, List, [], ◌∷◌, length, map}
use Rattle.std.specs.List.{flat_map, sum_by}
use Rattle.std.specs.Ordering.{int_eq}
use Rattle.atom_record.specs.declared.atom.Atom.{Atom}
use Rattle.bucket_meaning.specs.Guard.{firsts}
use Rattle.config_types.specs.declared.matcher.SimpleMatcher.{SimpleMatcher}
use Rattle.session_frames.specs.declared.frame.Frame.{Frame}
use Rattle.session_frames.specs.declared.frame.Frame.TheVariants.{Log, Install, Remove, Report}
use Rattle.hub_meaning.specs.Acceptance.{LiveConfig}
use Rattle.hub_meaning.specs.LiveConfigs.{live, install_bytes, history_of}
use Rattle.hub_meaning.specs.SessionLog.{log_frames, own}
use Rattle.saved_weight.specs.BookWeights.{states_weight, pulls_weight}
use Rattle.saved_weight.specs.HistoryWeights.{history_weight}

-- what a session weighs besides its entries
abbrev pub session_size : ℕ
session_size = 1024

-- what a live configuration weighs besides its bytes, its parts and its entries
abbrev pub live_size : ℕ
live_size = 512

-- the client of a command; a frame of the log has none
abbrev pub commander_of : Frame → List ℤ
commander_of (Log frame) = []
commander_of (Install uid id bytes) = uid ∷ []
commander_of (Remove uid id) = uid ∷ []
commander_of (Report uid id include_current) = uid ∷ []

-- the clients of a session, each once, where its first command comes
abbrev pub clients_of : List Frame → List ℤ
clients_of frames = firsts int_eq [] (flat_map commander_of frames)

-- a live configuration, with its client
abbrev pub LiveOf : Type 0
LiveOf = ℤ × LiveConfig

-- what is live for a client
abbrev pub lives_of_client : List Frame → ℤ → List LiveOf
lives_of_client frames uid = map (λ config. (uid, config)) (live (own uid frames))

-- all that is live, by clients
abbrev pub lives_of : List Frame → List LiveOf
lives_of frames = flat_map (lives_of_client frames) (clients_of frames)

-- the name of what is live: its client, and its id
abbrev pub name_of_live : LiveOf → ℤ × ℤ
name_of_live it = (it.0, it.1.id)

-- the names of all that is live
abbrev pub live_names : List Frame → List (ℤ × ℤ)
live_names frames = map name_of_live (lives_of frames)

-- What a judge says of simple matchers and atoms is a parameter of all that speaks of truths.
module _ (says : SimpleMatcher → Atom → Bool) where
  -- what is live for a client: its bytes, and what it weighs after what it has seen
  abbrev pub live_weight : List Frame → LiveOf → ℕ
  live_weight frames it =
      let mine = own it.0 frames in
      live_size + length (install_bytes mine it.1) + history_weight (history_of says it.0 mine it.1)

  -- the books of the log, and all that is live
  abbrev pub weigh : List Frame → ℕ
  weigh frames =
      let log = log_frames frames in
      session_size + states_weight log + pulls_weight log + sum_by (live_weight frames) (lives_of frames)

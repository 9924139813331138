-- What a pulled metric finds in a snapshot.
use Rattle.std.specs.Prelude.{◌<◌, Bool, List, [], All, Option}
use Rattle.std.specs.Option.{option_map, option_and_then}
use Rattle.atom_record.specs.declared.atom.Atom.{Atom}
use Rattle.atom_record.specs.declared.log.LogFrame.{LogFrame}
use Rattle.atom_record.specs.declared.log.LogFrame.TheVariants.{Tick, AtomAt, Pull}
use Rattle.atom_record.specs.AtomSound.{HasNoFault}
use Rattle.book_meaning.specs.Snapshots.{atoms_in}
use Rattle.config_types.specs.Askable.{IsAskable}
use Rattle.config_links.specs.declared.linked.LMatcher.{LMatcher}
use Rattle.config_links.specs.declared.linked.LMatcher.TheVariants.{Simple, Combo}
use Rattle.config_links.specs.declared.linked.LMetric.{LMetric}
use Rattle.predicate_state.specs.declared.truth.Truth.{Truth}
use Rattle.bucket_meaning.specs.Limits.{time_limit}
use Rattle.session_frames.specs.Faultless.{HasSoundAtoms}
use Rattle.session_frames.specs.FrameReading.{log_time}
use Rattle.metric_producer.specs.Calls.{Call}
use Rattle.metric_meaning.specs.Scenes.{Scene}
use Rattle.metric_meaning.specs.SnapshotSteps.{pulled_matcher, atoms_meant}
use Rattle.metric_meaning.specs.Touched.{is_touched}
use Rattle.metric_calls.specs.SnapshotCalls.{is_told_of, truth_in, Telling, pull_calls, atom_calls}
use Rattle.client_engine.specs.declared.brought.Brought.{Brought}
use Rattle.client_engine.specs.declared.snapshots.Found.{Found}

-- a matcher, if it is a simple one, may be asked
abbrev pub MayAsk : LMatcher → Type 0
MayAsk (Simple simple) = IsAskable simple
MayAsk (Combo op children) = Unit {0}

-- the matchers of the configuration may be asked of the atoms that are brought, and the frame comes while there is time
pub record CanBeBrought (brought : Brought) : Type 0 where
  pub askable : All MayAsk brought.matchers.now
  pub sound : HasSoundAtoms brought.frame.now
  pub timely : log_time brought.frame.now < time_limit

-- the matcher of what was found may be asked of the atoms
pub record CanBeMeant (found : Found) : Type 0 where
  pub askable : IsAskable found.matcher.now
  pub sound : All HasNoFault found.atoms.now

-- the atoms that are meant of those that were found
abbrev pub meant_in : Found → List Atom
meant_in found = atoms_meant found.matcher.now found.atoms.now

-- what a metric finds in the atoms of a pull, or that there are none
abbrev pub found_among : List LMatcher → LMetric → Option (List Atom) → Option (List Atom)
found_among matchers metric atoms =
    option_and_then (λ matcher. option_map (atoms_meant matcher) atoms) (pulled_matcher matchers metric)

-- what a pulled metric tells its producer of a frame that is shown, in the scene that the frame leaves
abbrev pub calls_shown : {Event : Type 0} → Telling Event → Scene → LMetric → LogFrame → List Bool
    → List (Call Event Truth)
calls_shown telling scene metric (Tick at) truths = []
calls_shown telling scene metric (AtomAt at atom) truths =
    atom_calls telling (is_touched scene.linked.predicates metric truths) at (truth_in scene metric) truths
calls_shown telling scene metric (Pull at id outcome) truths =
    pull_calls telling (is_told_of scene.linked.matchers metric id) at
    (found_among scene.linked.matchers metric (atoms_in outcome))

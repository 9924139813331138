-- What the two books of the log stand for.
use Rattle.std.specs.Prelude.{◌≡◌, ℕ, List, [], ◌∷◌, ◌++◌, Result, IfOk}
use Rattle.atom_record.specs.declared.log.LogFrame.{LogFrame}
use Rattle.atom_record.specs.declared.log.LogFrame.TheVariants.{Tick, AtomAt, Pull}
use Rattle.atom_record.specs.declared.log.PullOutcome.TheVariants.{Failed}
use Rattle.config_links.specs.declared.linked.Linked.{Linked}
use Rattle.state_slicer.specs.StateBooks.{StateBookStandsFor}
use Rattle.pull_book.specs.PullBooks.{PullBookStandsFor}
use Rattle.client_engine.specs.InstanceStands.{Running, IsFresh}
use Rattle.hub_core.specs.declared.books.Books.{Books}

-- both are what these frames of the log make of empty ones
pub record BooksStandFor (books : Books) (log : List LogFrame) : Type 0 where
  pub states : StateBookStandsFor books.states log
  pub pulls : PullBookStandsFor books.pulls log

-- whatever log the books stand for, the instance of what comes of an install is as it is just after it
abbrev pub StartsFresh : {A E : Type 0} → Linked → ℕ → Books → Result A E → (A → Running) → Type 0
StartsFresh linked base books result started =
    (opening : List LogFrame) → BooksStandFor books opening
    → IfOk result (λ new. IsFresh linked base opening (started new))

-- whatever log the old book stands for, the new one stands for it with this frame
abbrev pub GrowsBy : {B : Type 0} → (B → List LogFrame → Type 0) → B → LogFrame → B → Type 0
GrowsBy stands old frame new = (log : List LogFrame) → stands old log → stands new (log ++ frame ∷ [])

-- the second one is the first as a pull that failed, if the first is a pull
abbrev pub IsAsFailed : LogFrame → LogFrame → Type 0
IsAsFailed (Pull at id outcome) failed = failed ≡ Pull at id Failed
IsAsFailed _ failed = Unit {0}

-- what is left of a frame whose pull was taken: one that failed; an atom and a tick stay as they are
abbrev pub frame_left : LogFrame → LogFrame
frame_left (Tick at) = Tick at
frame_left (AtomAt at atom) = AtomAt at atom
frame_left (Pull at id outcome) = Pull at id Failed

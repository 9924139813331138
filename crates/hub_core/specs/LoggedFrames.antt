-- A frame of the log as it comes to what is live.
use Rattle.atom_record.specs.declared.log.LogFrame.{LogFrame}
use Rattle.bucket_meaning.specs.Ends.{Moment}
use Rattle.matcher_table.specs.Tables.{SlotTable}
use Rattle.matcher_table.specs.Contents.{contents_of}
use Rattle.client_engine.specs.Handed.{BookOfStates}
use Rattle.hub_core.specs.declared.logging.Coming.{Coming}
use Rattle.hub_core.specs.declared.logging.Logged.{Logged}
use Rattle.hub_core.specs.Sleeping.{moment_of_clock}

-- A frame as it is shown, with the last frame before it and the book of states after it.
pub record ShownFrame : Type 0 where
  pub before : Moment
  pub frame : LogFrame
  pub book : BookOfStates

-- a frame that is shown so, after this moment and with this book
abbrev pub shown_frame : Moment → LogFrame → BookOfStates → ShownFrame
shown_frame before frame book = record { before = before; frame = frame; book = book }

-- the frame that comes to all that is live
abbrev pub shown_of : Coming → ShownFrame
shown_of coming = shown_frame (moment_of_clock coming.before) coming.frame.now coming.states.now

-- A frame that is shown, with the table that has the truths of all matchers for it.
pub record LoggedFrame : Type 0 where
  pub table : SlotTable
  pub shown : ShownFrame

-- a frame that is shown so, with this table
abbrev pub logged_frame : SlotTable → ShownFrame → LoggedFrame
logged_frame table shown = record { table = table; shown = shown }

-- the frame that comes to live configurations
abbrev pub logged_of : Logged → LoggedFrame
logged_of logged = logged_frame (contents_of logged.table.now) (shown_of logged.coming)

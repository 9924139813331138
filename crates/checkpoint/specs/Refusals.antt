-- Why no hub is resumed, by why nothing was built.
use Rattle.flat_form.specs.declared.flat_error.FlatError.{FlatError}
use Rattle.flat_form.specs.declared.flat_error.FlatError.TheVariants as flat
use Rattle.checkpoint.specs.declared.error.ResumeError.{ResumeError}
use Rattle.checkpoint.specs.declared.error.ResumeError.TheVariants.{NotSaved, Memory}

-- bytes of which nothing is built are the saved form of no hub
abbrev pub resume_error : FlatError → ResumeError
resume_error flat.Bad = NotSaved
resume_error flat.Memory = Memory

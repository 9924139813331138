-- What one more step means: for the proofs of producers and instances.
use Rattle.std.proofs.Common.{◌≡◌, List, [], ◌∷◌, ◌++◌, ap, ◌∙◌}
use Rattle.sd_base.proofs.OutputsLemmas.{outputs-push}
use Rattle.bucket_meaning.specs.Marks.{books_of}
use Rattle.bucket_meaning.specs.Rows.{drops}
use Rattle.bucket_meaning.specs.Meaning.{Meaning, marks_on, marks_by, books_by}
use Rattle.bucket_meaning.proofs.MarksLemmas.{books-append}

-- the books after one more step
pub books_by-push : {Params Step X K C R : Type 0} (meaning : Meaning Params Step X K C R) (params : Params)
    (steps : List Step) (step : Step)
    → books_by meaning params (steps ++ step ∷ [])
    ≡ marks_on meaning params (books_by meaning params steps) (meaning.marks params steps step)
books_by-push meaning params steps step =
    let drop = drops (meaning.kind params) (meaning.bound params) in
    ap (books_of drop (meaning.base params)) (outputs-push (meaning.marks params) steps step)
    ∙ books-append drop (record { start = meaning.base params; came = []; closed = []; dropped = 0; missing = 0 })
    (marks_by meaning params steps) (meaning.marks params steps step)

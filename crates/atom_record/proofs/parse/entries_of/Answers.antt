use Rattle.std.proofs.Common.{◌≡◌, length, ◌<◌, Ok, refl, sym, ◌∙◌, arith}
use Rattle.std.proofs.lemmas.Result.{err_from_is_err_and}
use Rattle.std.proofs.lemmas.Bool.Decides.{nat_tests}
use Rattle.sd_base.specs.Reads.{FailsBy}
use Rattle.atom_record.specs.AtomReading.{reason_of, entry_at}
use Rattle.atom_record.proofs.AtomReadingLoop.{goes_on, ends, is_done, entry_shortens, any_exclusive-push}
use Rattle.atom_record.proofs.parse.entries_of.Goals as goal

-- the first fault of an entry is that of the whole
pub returns-in_err-entry : goal.returns-in_err-entry
returns-in_err-entry c =
    let p = err_from_is_err_and c.from_residual.result c.from_residual.ensures.1 in
    let some : 0 < length c.loop-rest.rest.now = grind (arith, nat_tests, c.is_empty.ensures) in
    let failed : FailsBy (reason_of c.in_err-entry.field-0.0)
    (entry_at c.loop-rest.entries.items c.loop-rest.rest.now) =
    rw c.as_slice.ensures.value at c.in_err-entry.ensures in
    let whole = ends c.loop-rest.entries.items c.loop-rest.rest.now c.in_err-entry.field-0.0 some failed in
    rw (p.1, p.2) (rw c.loop-rest.invariant.reads at whole)

-- an entry takes a byte at least
pub loop-rest-smaller : goal.loop-rest-smaller
loop-rest-smaller c =
    let read : entry_at c.loop-rest.entries.items c.loop-rest.rest.now
    ≡ Ok (c.in_ok-entry.entry, c.in_ok-entry.after.now) =
    rw c.as_slice.ensures.value at c.in_ok-entry.ensures in
    entry_shortens c.loop-rest.entries.items c.loop-rest.rest.now _ read

-- one more entry is read
pub loop-rest-preserved : goal.loop-rest-preserved
loop-rest-preserved c =
    let read : entry_at c.loop-rest.entries.items c.loop-rest.rest.now
    ≡ Ok (c.in_ok-entry.entry, c.in_ok-entry.after.now) =
    rw c.as_slice.ensures.value at c.in_ok-entry.ensures in
    record {
      reads = rw c.in_ok-push.ensures.items (goes_on c.loop-rest.entries.items c.loop-rest.rest.now _ _ read
          ∙ c.loop-rest.invariant.reads);
      exclusive = rw (
        c.in_ok-push.ensures.items,
        any_exclusive-push c.loop-rest.entries.items c.in_ok-entry.entry,
        c.loop-rest.invariant.exclusive,
        c.has_flag-exclusive.ensures,
      ) refl;
    }

-- no byte is left
pub returns : goal.returns
returns c =
    let none : length c.loop-rest.rest.now ≡ 0 = grind (arith, nat_tests, c.is_empty.ensures) in
    sym c.loop-rest.invariant.reads ∙ is_done c.loop-rest.entries.items c.loop-rest.rest.now none

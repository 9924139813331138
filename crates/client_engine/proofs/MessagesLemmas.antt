-- The samples that a report shows of a gauge's rows can be written.
use Rattle.std.proofs.Common.{Bool, List, [], map, filter, get_or, None}
use Rattle.std.specs.Prelude.{All}
use Rattle.std.proofs.lemmas.List.Elements.{All-map}
use Rattle.atom_record.specs.declared.atom.Atom.{Atom}
use Rattle.bucket_meaning.specs.Guard.{firsts}
use Rattle.report_writer.specs.AtomMessage.{message_of}
use Rattle.report_writer.specs.Writable.{IsWritableAtom, IsWritableBucket, IsWritableRow}
use Rattle.report_writer.proofs.AtomMessageLemmas.{is_field_number, parts_numbered}
use Rattle.metric_producer.specs.declared.row.Row.{Row}
use Rattle.metric_kinds.specs.Keys.{is_same_key}
use Rattle.metric_meaning.specs.KeyTrees.{group_by, row_key, key_tree, groups_of}
use Rattle.metric_meaning.specs.GaugeTrees.{sampled_bucket}
use Rattle.client_engine.specs.GaugesAlong.{gauge_entry}

-- the message of an atom can be written
message-writable : (atom : Atom) → IsWritableAtom (message_of atom)
unfolding message_of
message-writable atom = record { id = is_field_number atom.id; parts = parts_numbered None atom.fields }

-- so can the samples of a row
bucket-writable : (row : Row (List Atom)) → IsWritableBucket (sampled_bucket row)
bucket-writable row =
    All-map IsWritableAtom message_of row.value (λ k d below. message-writable (get_or row.value k d))

-- so can the samples of all keys
pub gauges-writable : (rows : List (Row (List Atom)))
    → All IsWritableRow (groups_of gauge_entry sampled_bucket rows)
gauges-writable rows =
    All-map IsWritableRow (group_by is_same_key row_key (key_tree gauge_entry) sampled_bucket rows)
    (firsts is_same_key [] (map row_key rows))
    (λ k d below.
    let key = get_or (firsts is_same_key [] (map row_key rows)) k d in
    let own : Row (List Atom) → Bool = λ row. is_same_key row.key key in
    All-map IsWritableBucket sampled_bucket (filter own rows)
    (λ i r within. bucket-writable (get_or (filter own rows) i r)))

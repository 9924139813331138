-- The derived `==` of keys and atoms holds exactly where contracts see the same value.
use Rattle.std.specs.Prelude.{◌≡◌, refl}
use Rattle.std.specs.Bool.{Decides}
use Rattle.std.specs.Cmp.Rules.{comparing, hashing}
use Rattle.std.specs.Cmp.Lexicographic.{pointwise_decides}
use Rattle.std.proofs.Common.{rules, ap}
use Rattle.atom_record.specs.declared.value.Leaf.{Leaf}
use Rattle.atom_record.specs.declared.value.Leaf.TheVariants.{Missing, One, Many}
use Rattle.atom_record.specs.declared.value.MetricKey.{MetricKey}
use Rattle.atom_record.specs.declared.atom.AtomField.{AtomField}
use Rattle.atom_record.specs.declared.atom.Atom.{Atom}
use Rattle.atom_record.specs.contracts.value.ValueExact.TheImpl.Laws.{exact-law as value_exact}
use Rattle.atom_record.specs.contracts.value.SliceExact.TheImpl.Laws.{exact-law as slice_exact}
use Rattle.atom_record.specs.contracts.value.LeafPartialEq.TheImpl as leaf
use Rattle.atom_record.specs.contracts.value.MetricKeyPartialEq.TheImpl as metric_key
use Rattle.atom_record.specs.contracts.atom.AtomFieldPartialEq.TheImpl as atom_field
use Rattle.atom_record.specs.contracts.atom.AtomPartialEq.TheImpl as atom

-- `==` of leaves
pub leaf_exact : (x y : Leaf) → Decides (leaf.ghosts.eq x y) (x ≡ y)
leaf_exact Missing Missing = (λ _. refl, λ _. refl)
leaf_exact (One x) (One y) = let d = value_exact x y in (λ h. ap One (d.0 h), λ e. d.1 (cc))
leaf_exact (Many x) (Many y) = let d = pointwise_decides value_exact x y in (λ h. ap Many (d.0 h), λ e. d.1 (cc))
leaf_exact _ _ = (λ h. cc, λ e. cc)

-- `==` of keys
pub metric_key_exact : (x y : MetricKey) → Decides (metric_key.ghosts.eq x y) (x ≡ y)
metric_key_exact x y =
    let dims = pointwise_decides leaf_exact x.dims y.dims in
    let slices = pointwise_decides slice_exact x.slices y.slices in
    search (rules, dims, slices)

-- `==` of entries
pub atom_field_exact : (x y : AtomField) → Decides (atom_field.ghosts.eq x y) (x ≡ y)
atom_field_exact x y = let value = value_exact x.value y.value in search (comparing, hashing, rules, value)

-- `==` of atoms
pub atom_exact : (x y : Atom) → Decides (atom.ghosts.eq x y) (x ≡ y)
atom_exact x y = let fields = pointwise_decides atom_field_exact x.fields y.fields in search (rules, fields)

-- What is always so of kept predicates and their tables, and what an atom makes of the tables: for private clauses.
use Rattle.std.specs.Prelude.{◌≡◌, ℕ, ◌<◌, ◌≤◌, Bool, true, false, List, [], ◌∷◌, map, length, get_or, All}
use Rattle.atom_record.specs.declared.atom.Atom.{Atom}
use Rattle.link_graph.specs.Links.{AreInRange, HasNoCycle}
use Rattle.config_links.specs.declared.linked.LPredicate.{LPredicate}
use Rattle.config_links.specs.declared.linked.LPredBody.{LPredBody}
use Rattle.config_links.specs.LinkScopes.{body_dims}
use Rattle.config_links.specs.OwnMatchers.{predicate_matchers}
use Rattle.config_links.specs.SoundConfig.{most_predicates, IsBound}
use Rattle.condition_links.specs.Conditions.{predicate_names}
use Rattle.predicate_state.specs.PredicateTable.{PredicateTable}
use Rattle.metric_meaning.specs.PredicateSteps.{table_spec, table_with, atom_events}
use Rattle.known_conditions.specs.Marks.{IsMarked}

-- a table's keys have as many leaves as the predicate's dimensions
abbrev pub HasItsLeaves : LPredBody → Type 0
HasItsLeaves body = (table_spec body).leaves ≡ length (body_dims body).leaves

-- the same of a predicate
abbrev pub KeepsItsLeaves : LPredicate → Type 0
KeepsItsLeaves predicate = HasItsLeaves predicate.body

-- a table keeps so many keys as a table may
abbrev pub HasBound : LPredicate → Type 0
HasBound predicate = IsBound (table_spec predicate.body).bound

-- each table is kept as its predicate says
abbrev pub HaveTheirSpecs : List LPredicate → List PredicateTable → Type 0
HaveTheirSpecs predicates tables =
    map (λ (table : PredicateTable). table.spec) tables
    ≡ map (λ (predicate : LPredicate). table_spec predicate.body) predicates

-- predicates that can be kept and asked
pub record CanBeKept (predicates : List LPredicate) : Type 0 where
  pub few : length predicates ≤ most_predicates
  pub in_range : AreInRange (predicate_names predicates)
  pub no_cycle : HasNoCycle (predicate_names predicates)
  pub leaves : All KeepsItsLeaves predicates
  pub bounds : All HasBound predicates

-- kept predicates with their tables
pub record AreKept (predicates : List LPredicate) (tables : List PredicateTable) : Type 0 where
  pub can : CanBeKept predicates
  pub specs : HaveTheirSpecs predicates tables

-- each table after what an atom does to its predicate
abbrev pub tables_with : List Bool → Atom → List LPredicate → List PredicateTable → List PredicateTable
tables_with truths atom [] tables = []
tables_with truths atom (predicate ∷ predicates) [] = []
tables_with truths atom (predicate ∷ predicates) (table ∷ tables) =
    table_with (atom_events predicate.body truths atom) table ∷ tables_with truths atom predicates tables

-- the matchers whose atoms act on a predicate
abbrev pub acting_matchers : LPredicate → List ℕ
acting_matchers predicate = predicate_matchers predicate.body

-- An atom acted on the predicates that are marked, and the other tables are as they were.
pub record AreActedOn (truths : List Bool) (atom : Atom) (predicates : List LPredicate)
    (old now : List PredicateTable) (marks : List Bool) : Type 0 where
  pub specs : HaveTheirSpecs predicates now
  pub marked : length marks ≡ length predicates
  pub done : (place : ℕ) (one : LPredicate) (none : PredicateTable) → place < length predicates
      → IsMarked marks place
      → get_or now place none
      ≡ table_with (atom_events (get_or predicates place one).body truths atom) (get_or old place none)
  pub rest : (place : ℕ) (none : PredicateTable) → get_or marks place true ≡ false
      → get_or now place none ≡ get_or old place none

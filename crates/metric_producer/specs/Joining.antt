-- Two crossings with nothing between them, and the one crossing that covers both.
use Rattle.std.specs.Prelude.{◌≡◌, suc, ◌+◌, List, [], ◌∷◌, ◌++◌}
use Rattle.bucket_clock.specs.declared.crossings.Crossings.{Crossings}
use Rattle.bucket_clock.specs.Clock.{last_end}
use Rattle.metric_producer.specs.Calls.{Call, Crossed}
use Rattle.metric_producer.specs.Collecting.{Law}

-- The whole crosses the ends of both: the second begins where the first has led, and goes on with the next full end.
pub record IsJoined (one other whole : Crossings) : Type 0 where
  pub follows : other.start ≡ last_end one
  pub next_end : other.first_end ≡ last_end one + one.size
  pub same_size : other.size ≡ one.size
  pub start : whole.start ≡ one.start
  pub first_end : whole.first_end ≡ one.first_end
  pub size : whole.size ≡ one.size
  pub full_buckets : whole.full_buckets ≡ one.full_buckets + suc other.full_buckets

-- whatever an object has got, where it has got the whole crossing next, it has as well got the two, one after the other
abbrev pub Joins : {P Params Event After X K C R : Type 0} → Law P Params Event After X K C R → Type 0
Joins {P} {Params} {Event} {After} law =
    (object : P) (params : Params) (calls : List (Call Event After)) (one other whole : Crossings)
    → IsJoined one other whole
    → law.stands object params (calls ++ Crossed whole ∷ [])
    → law.stands object params (calls ++ Crossed one ∷ Crossed other ∷ [])

-- Which atoms are pulled. Those of the platform and those of vendors have a range of ids each.
use Rattle.std.specs.Prelude.{ℕ, Bool, ◌≤◌, ◌<◌, ◌⊎◌, ◌&&◌, ◌||◌, nat_le, nat_lt}

-- the first id of the platform's pulled atoms
abbrev pub first_platform_pull : ℕ
first_platform_pull = 10000

-- the first id after the platform's pulled atoms
abbrev pub after_platform_pulls : ℕ
after_platform_pulls = 100000

-- the first id of the vendors' pulled atoms
abbrev pub first_vendor_pull : ℕ
first_vendor_pull = 150000

-- the first id after the vendors' pulled atoms
abbrev pub after_vendor_pulls : ℕ
after_vendor_pulls = 200000

-- atoms of this id come in recorded pulls
abbrev pub IsPulled : ℕ → Type 0
IsPulled id =
    (first_platform_pull ≤ id × id < after_platform_pulls) ⊎ (first_vendor_pull ≤ id × id < after_vendor_pulls)

-- the test whether atoms of this id come in recorded pulls
abbrev pub is_pull_id : ℕ → Bool
is_pull_id id =
    (nat_le first_platform_pull id && nat_lt id after_platform_pulls)
    || (nat_le first_vendor_pull id && nat_lt id after_vendor_pulls)

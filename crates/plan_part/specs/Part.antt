-- The bytes of a chute's row (docs/RULES.md, 'Chute plan'), as a part of the plan that they came from.
use Rattle.std.specs.Prelude.{ℕ, ◌+◌, ◌-◌, ◌≡◌, List, [], Bool, cond, ◌&&◌, leb, length, take, drop, Option, Some, None}
use Rattle.std.specs.Borrow.{Bor}
use Rattle.plan_pair.specs.Pair.{Location, location_of}
use Rattle.plan_pair.specs.declared.Source.{Source}
use Rattle.plan_pair.specs.declared.Source.TheVariants.{Site, House}
use Rattle.plan_pair.specs.declared.RowLocation.{RowLocation}

-- the bytes from a place on, none where they would run past the end
abbrev pub inside : List ℕ → ℕ → ℕ → Bool
inside s start n = leb start (length s) && leb n (length s - start)

abbrev pub part_from : List ℕ → ℕ → ℕ → List ℕ
part_from s start n = cond (inside s start n) (take n (drop start s)) []

-- where they stand in memory, where an address is a block and an offset in it
abbrev pub address_from : Bor (List ℕ) → ℕ → ℕ → ℕ × ℕ
address_from s start n = (s.ref_ptr.0, cond (inside s.now start n) start 0 + s.ref_ptr.1)

-- the bytes at a location, none where it names neither plan
abbrev pub part_in : Option Source → List ℕ → List ℕ → ℕ → ℕ → List ℕ
part_in None site house start n = []
part_in (Some Site) site house start n = part_from site start n
part_in (Some House) site house start n = part_from house start n

abbrev pub part_of : List ℕ → List ℕ → Location → List ℕ
part_of site house l = part_in l.source site house l.start l.length

abbrev pub part_at : List ℕ → List ℕ → Option RowLocation → List ℕ
part_at site house None = part_in None site house 0 0
part_at site house (Some l) = part_in (Some l.source) site house l.start l.length

-- and where they stand: a part of the plan they came from, at their place in it
abbrev pub address_in : Option Source → Bor (List ℕ) → Bor (List ℕ) → ℕ → ℕ → ℕ × ℕ
address_in None site house start n = site.ref_ptr
address_in (Some Site) site house start n = address_from site start n
address_in (Some House) site house start n = address_from house start n

abbrev pub address_of : Bor (List ℕ) → Bor (List ℕ) → Location → ℕ × ℕ
address_of site house l = address_in l.source site house l.start l.length

abbrev pub address_at : Bor (List ℕ) → Bor (List ℕ) → Option RowLocation → ℕ × ℕ
address_at site house None = address_in None site house 0 0
address_at site house (Some l) = address_in (Some l.source) site house l.start l.length

unfoldable pub row_bytes_of : List ℕ → List ℕ → ℕ → List ℕ
row_bytes_of site house chute = part_of site house (location_of site house chute)

-- the bytes r of a chute's row, and where they stand: the empty part on a refusal
pub record RowBytes (site house : Bor (List ℕ)) (chute : ℕ) (r : Bor (List ℕ)) : Type 0 where
  pub bytes : r.now ≡ row_bytes_of site.now house.now chute
  pub address : r.ref_ptr ≡ address_of site house (location_of site.now house.now chute)

-- Laws of a hall plan written: the entries of a list, and those of the bytes that they are written as, are read alike; so the plan reads as its halls.
use Rattle.std.specs.Prelude.{◌≡◌, refl, List, [], ◌++◌, true, ℕ, suc, ◌+◌, ◌≤◌}
use Rattle.std.proofs.Common.{arith, le-ltb, ne_eqb}
use Rattle.std.proofs.Math.ListN.{length}
use Rattle.leb128.specs.Number.{max_number}
use Rattle.leb128_write.specs.Written.{written_number}
use Rattle.leb128_write.proofs.Laws.{number_read}
use Rattle.plan_read.specs.Limits.{max_plan}
use Rattle.hall_entry.specs.Limits.{levels_below}
use Rattle.hall_entry.specs.Entries.{Entry, chute_kind, destinations, first, reached, entries_with, inner_of, entries_of}
use Rattle.hall_entry.specs.Bytes.{byte_head}
use Rattle.hall_entry.specs.Laws.Heads.{kind_known}
use Rattle.hall_entry.specs.Laws.Induction.{AllGood, WithNone, WithChute, WithHall, reads_good, hall_destinations}
use Rattle.hall_read.specs.Halls.{halls, halls_of}
use Rattle.hall_check.specs.Lists.{list_head, all_read}
use Rattle.hall_check.specs.Laws.Heads.{stands}
use Rattle.hall_check.specs.Laws.Taken.{read_whole}
use Rattle.hall_length.specs.Written.{written_entries, written_halls}

-- the entry that stands first in a list stands first in its bytes, from any place on
module _ (levels chutes at k v mid : ℕ) (s t : List Entry) (e : list_head levels chutes at s ≡ first k v mid t) (b : ℕ) where
  abbrev pub past : ℕ
  past = b + length (written_number k) + length (written_number v)

  pub head_alike : byte_head levels chutes b (written_entries s) ≡ first k v past (written_entries t)
  unfolding byte_head written_entries
  head_alike =
      let h = stands levels chutes at k v mid s t e in
      let small : k ≤ max_number = omega (arith, (kind_known levels chutes k h.allowed).small) in
      rw (
        h.is,
        number_read b k small (written_number v ++ written_entries t),
        h.allowed,
        number_read (b + length (written_number k)) v h.small (written_entries t),
      )

-- the n entries l that are read from a list s, with `rest` left, are read from its bytes, with the bytes of `rest` left
pub record Alike (levels n b chutes : ℕ) (s l rest : List Entry) : Type 0 where
  pub end : ℕ
  pub is : entries_of byte_head levels n b chutes (written_entries s) ≡ reached l end (written_entries rest)

abbrev pub ReadAlike : (levels n at chutes : ℕ) → List Entry → List Entry → ℕ → List Entry → Type 0
ReadAlike levels n at chutes s l next rest = (b : ℕ) → Alike levels n b chutes s l rest

alike_none : WithNone list_head ReadAlike
unfolding entries_with
alike_none levels at chutes s b = record { end = b; is = refl }

alike_chute : WithChute list_head ReadAlike
unfolding entries_with destinations
alike_chute levels n at chutes s v mid t l next rest e g b =
    let a = g (past levels chutes at chute_kind v mid s t e b) in
    record { end = a.end; is = rw (head_alike levels chutes at chute_kind v mid s t e b, a.is) }

alike_hall : WithHall list_head ReadAlike
unfolding entries_with inner_of
alike_hall levels n at chutes s k v mid t inner past' u l next rest e o i g b =
    let a = i (past (suc levels) chutes at k v mid s t e b) in
    let c = g a.end in
    record {
      end = c.end;
      is = rw (head_alike (suc levels) chutes at k v mid s t e b, ne_eqb _ _ o, a.is, hall_destinations k v inner o, c.is);
    }

pub same_read : (levels n at chutes : ℕ) (s : List Entry) → AllGood list_head ReadAlike levels n at chutes s (entries_of list_head levels n at chutes s)
same_read levels n at chutes s = reads_good list_head ReadAlike alike_none alike_chute alike_hall levels n at chutes s

-- an outermost number and entries that keep the rules, whose hall plan is not too long: it reads as them
pub halls_back : (outer : ℕ) (l : List Entry) → outer ≤ max_number → all_read (entries_of list_head levels_below outer 0 0 l) ≡ true
    → length (written_halls outer l) ≤ max_plan → halls_of (written_halls outer l) ≡ halls outer l
unfolding written_halls halls_of written_entries
halls_back outer l small ok short =
    let w = read_whole levels_below outer 0 0 l ok in
    let same : ReadAlike levels_below outer 0 0 l l w.next [] = rw w.is at (same_read levels_below outer 0 0 l) in
    let a = same (0 + length (written_number outer)) in
    rw (le-ltb _ _ short, number_read 0 outer small (written_entries l), a.is)

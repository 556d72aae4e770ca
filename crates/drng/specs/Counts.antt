-- What a draw counts, from the count of the calls that it is made of (docs/RULES.md, 'Generators' and 'Count'). proofs/Counts.antt proves it.
use Rattle.std.specs.Prelude.{◌≡◌, List, ℕ, ◌*◌, ◌≤◌, length, Ok}
use Rattle.answers.specs.Numbers.{done}
use Rattle.calls.specs.Limits.{max_additional}
use Rattle.calls.specs.Count.{runs}
use Rattle.seeding.specs.declared.Drng.{Drng}
use Rattle.seeding.specs.declared.Drng.TheVariants.{Cshake, Kmac}
use Rattle.seeding.specs.Seeding.{key_bytes}
use Rattle.pieces.specs.Pieces.{piece_count}
use Rattle.drng.specs.declared.Generator.{Generator}
use Rattle.drng.specs.Calls.{piece_call}
use Rattle.drng.specs.Drng.{draw_refusal, draw_answer}

-- of cSHAKE256: a block of name and key, a block of additional input, and a block of output more
-- of KMACXOF256: a block of name and customisation, a block of the key, a block of additional input, and a block of output more
abbrev pub piece_runs : Drng → ℕ
piece_runs Cshake = 3
piece_runs Kmac = 4

pub record DrawCounts : Type 0 where
  -- that is the count of a piece's call, whatever the additional input and the key
  pub piece : (d : Drng) (additional key : List ℕ) → length additional ≤ max_additional → length key ≡ key_bytes
      → runs (piece_call d additional key) ≡ piece_runs d
  -- so an accepted draw reports it once for each piece
  pub draw : (d : Drng) (g : Generator) (additional : List ℕ) (n : ℕ) → length g.key ≡ key_bytes
      → draw_refusal g.seeded (length additional) n ≡ done → (draw_answer d g additional n).answer ≡ Ok (piece_runs d * piece_count n)

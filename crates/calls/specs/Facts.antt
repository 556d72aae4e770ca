-- The edges of the refusal table (docs/RULES.md, 'Numbers') and the counts of KMACXOF256 ('Facts'). proofs/Facts.antt proves them.
use Rattle.std.specs.Prelude.{◌≡◌, List, [], ◌∷◌, ◌++◌, ℕ, length, replicate}
use Rattle.encode.specs.Encode.{KMAC}
use Rattle.calls.specs.Start.{named, keyed, start_refusal}
use Rattle.calls.specs.Call.{Function, cshake256, kmac256, kmacxof256, message_refusal, output_refusal, refusal}
use Rattle.calls.specs.Count.{runs, reported_runs}

-- Refusals

abbrev bytes : ℕ → List ℕ
bytes n = replicate n 0

pub record StartRefusals : Type 0 where
  pub key4096 : start_refusal (keyed (bytes 4096) []) ≡ 0
  pub key4097 : start_refusal (keyed (bytes 4097) (bytes 4097)) ≡ 2
  pub keyed4096 : start_refusal (keyed [] (bytes 4096)) ≡ 0
  pub keyed4097 : start_refusal (keyed [] (bytes 4097)) ≡ 3
  pub name4096 : start_refusal (named (bytes 4096) []) ≡ 0
  pub name4097 : start_refusal (named (bytes 4097) []) ≡ 3
  pub named4096 : start_refusal (named [] (bytes 4096)) ≡ 0
  pub named4097 : start_refusal (named KMAC (bytes 4097)) ≡ 3
  pub reserved : start_refusal (named KMAC []) ≡ 4
  -- `kmac`, and `KMAC` with a trailing blank
  pub lower_case : start_refusal (named (0x6b ∷ 0x6d ∷ 0x61 ∷ 0x63 ∷ []) []) ≡ 0
  pub longer : start_refusal (named (KMAC ++ (0x20 ∷ [])) []) ≡ 0

pub record CallRefusals : Type 0 where
  pub message : message_refusal 16777216 ≡ 0
  pub long_message : message_refusal 16777217 ≡ 5
  pub output : (f : Function) → output_refusal f 16777216 ≡ 0
  pub long_output : (f : Function) → output_refusal f 16777217 ≡ 6
  -- the start's number before 6, and an empty output
  pub start_first : refusal (cshake256 [] 16777217 KMAC []) ≡ 4
  pub cshake_empty : refusal (cshake256 [] 0 [] []) ≡ 0
  pub kmac_empty : refusal (kmac256 [] [] 0 []) ≡ 6
  pub kmacxof_empty : refusal (kmacxof256 [] [] 0 []) ≡ 0
  pub no_count : reported_runs (kmac256 [] [] 0 []) ≡ 0

-- Counts

-- with any key, message and customisation of these lengths, and an output of n bytes
abbrev pub Runs : ℕ → ℕ → ℕ → ℕ → ℕ → Type 0
Runs k x n s r = (K X S : List ℕ) → length K ≡ k → length X ≡ x → length S ≡ s → runs (kmacxof256 K X n S) ≡ r

pub record Counts : Type 0 where
  pub output32 : Runs 32 0 32 0 3
  pub output0 : Runs 32 0 0 0 3
  pub output136 : Runs 32 0 136 0 3
  pub output137 : Runs 32 0 137 0 4
  pub message133 : Runs 32 133 32 0 3
  pub message134 : Runs 32 134 32 0 4
  pub customisation125 : Runs 32 0 32 125 3
  pub customisation126 : Runs 32 0 32 126 4

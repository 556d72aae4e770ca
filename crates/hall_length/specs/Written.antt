-- A hall plan written (docs/RULES.md, 'Hall plan'): the outermost number of entries, then each entry's kind and value in reading order, each in the fewest
-- groups.
use Rattle.std.specs.Prelude.{ℕ, List, [], ◌∷◌, ◌++◌}
use Rattle.leb128_write.specs.Written.{written_number}
use Rattle.hall_entry.specs.Entries.{Entry}

unfoldable pub written_entries : List Entry → List ℕ
written_entries [] = []
written_entries (e ∷ l) = written_number e.kind ++ (written_number e.value ++ written_entries l)

unfoldable pub written_halls : ℕ → List Entry → List ℕ
written_halls outer l = written_number outer ++ written_entries l

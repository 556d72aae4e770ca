-- The version that header and archive share: HF_VERSION of include/hailfeather.h.
use Rattle.std.specs.Prelude.{ℕ}

abbrev pub version : ℕ
version = 300

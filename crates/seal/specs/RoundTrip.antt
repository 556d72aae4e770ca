-- What demand 2 says of sealing and opening, of the construction that the contracts cite. proofs/RoundTrip.antt proves it.
use Rattle.aead.specs.Aead.{Lawful}
use Rattle.aead.specs.RoundTrip.{SealsWithinLimits, AcceptsExactly, OpensWhatWasSealed, CutTagsOpen}
use Rattle.seal.specs.Kmac.{kmac_aead}

pub record RoundTrip : Type 0 where
  pub lawful : Lawful kmac_aead
  -- sealing is done exactly if the lengths keep the limits
  pub seals : SealsWithinLimits kmac_aead
  -- opening is done exactly if the tag equals the one worked out afresh
  pub accepts : AcceptsExactly kmac_aead
  -- opening what an accepted sealing left gives the text back
  pub opens : OpensWhatWasSealed kmac_aead
  -- a cut of a good tag, not shorter than 16 bytes, is a good tag
  pub cuts : CutTagsOpen kmac_aead

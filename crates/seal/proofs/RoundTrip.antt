-- Opening undoes sealing, as it does for every lawful construction.
use Rattle.aead.proofs.RoundTrip.{seals_within_limits, accepts_exactly, opens_what_was_sealed, cut_tags_open}
use Rattle.seal.specs.Kmac.{kmac_aead}
use Rattle.seal.specs.RoundTrip.{RoundTrip}
use Rattle.seal.proofs.Lawful.{kmac_lawful}

pub round_trip : RoundTrip
round_trip =
    record {
      lawful = kmac_lawful;
      seals = seals_within_limits kmac_aead;
      accepts = accepts_exactly kmac_aead;
      opens = opens_what_was_sealed kmac_aead kmac_lawful;
      cuts = cut_tags_open kmac_aead kmac_lawful;
    }

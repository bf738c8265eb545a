-- What the answer of `feeder_says` means: what a feeder says, or 27 for numbers that are no feeder's.
use Rattle.counts.specs.Outcome.{Outcome, gives, refused}
use Rattle.header.specs.Reads.{header_is}
use Rattle.header_feed.specs.Feeds.{Progress, need_more, outcome}
use Rattle.npy_codes.specs.declared.FeederSays.{FeederSays}

abbrev pub feeder_says : FeederSays → Outcome Progress
feeder_says FeederSays.More = gives need_more
feeder_says (FeederSays.Header h) = gives (outcome (gives (header_is h)))
feeder_says (FeederSays.Refused n) = gives (outcome (refused n))
feeder_says FeederSays.NoFeeder = refused 27

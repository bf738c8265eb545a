-- What the answers of `order_for` and `version_for` mean: the value, or the number of the refusal.
use Rattle.header_prefix.specs.declared.Version as declared
use Rattle.refusal.specs.declared.Refusal.{Refusal}
use Rattle.std.specs.Prelude.{Err, Ok, Result}
use Rattle.counts.specs.Outcome.{Outcome, gives, refused}
use Rattle.refusal.specs.Numbers.{number_of}
use Rattle.record.specs.Prefix.{Version}
use Rattle.header_prefix.specs.Answer.{version_is}

abbrev pub version_given : Result declared.Version Refusal → Outcome Version
version_given (Ok v) = gives (version_is v)
version_given (Err why) = refused (number_of why)

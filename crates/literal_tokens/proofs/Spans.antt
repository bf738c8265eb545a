-- Where a value is in the text.
use Rattle.literal_tokens.specs.Node.{Span, Node, string, integer, True, False, None, list, tuple, dict}

-- the place of a value in the text
abbrev pub span_of : Node → Span
span_of (string p w) = p
span_of (integer p minus n) = p
span_of (True p) = p
span_of (False p) = p
span_of (None p) = p
span_of (list p ns) = p
span_of (tuple p ns) = p
span_of (dict p ps) = p

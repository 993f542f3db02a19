-- When the text of a certificate is short.
use Rattle.std.specs.Prelude.{◌≤◌, length, All}
use Rattle.plan_values.specs.CertificateValues.{CertificateValue}

-- no node has more places than a repository has records at most
abbrev pub HasFewPlaces : CertificateValue → Type 0
HasFewPlaces c = All (λ p. length p.places ≤ 4096) c.places

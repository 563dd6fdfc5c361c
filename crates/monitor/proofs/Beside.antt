-- What a core has beside its point.
use Rattle.frame.specs.Core.{CoreView}
use Rattle.monitor.specs.Lawful.{Beside}

abbrev pub beside_of : CoreView → Beside
beside_of v = record { places = v.places; told = v.told }

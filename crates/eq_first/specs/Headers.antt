-- What a header of the code tells.
use Rattle.eq_first.specs.declared.header.Header.{Header}
use Rattle.eq_first.specs.Header.{Head}

abbrev pub head_of : Header → Head
head_of h = record { ports = h.ports; output = h.output }

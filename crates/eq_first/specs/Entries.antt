-- What a port's entry of the code tells.
use Rattle.eq_first.specs.declared.sentence.PortEntry.{PortEntry}
use Rattle.eq_first.specs.Sentence.{Entry}

abbrev pub entry_of : PortEntry → Entry
entry_of e = record { keyword = e.keyword.now; name = e.name.now; behind = e.behind }

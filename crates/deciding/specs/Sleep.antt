-- A wait on a condition in the terms of histories.
use Rattle.history.specs.Start.{Sleep}
use Rattle.deciding.specs.declared.sleep.LastSleep.{LastSleep}

abbrev pub sleep_of : LastSleep → Sleep
sleep_of last = record { condition = last.condition; holds = last.holds; how = last.how }

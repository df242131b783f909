-- The types of what is kept of a line, by names that laws in other crates can use too.
use Rattle.aes3_watch.specs.declared.signals.ChannelSignals.{ChannelSignals as ChannelKept}
use Rattle.aes3_watch.specs.declared.signals.Signals.{Signals as SignalsKept}
use Rattle.aes3_watch.specs.declared.summed.Summed.{Summed as SummedKept}
use Rattle.aes3_watch.specs.declared.watching.Watched.{Watched as WatchedKept}

abbrev pub ChannelSignals : Type 0
ChannelSignals = ChannelKept

abbrev pub Signals : Type 0
Signals = SignalsKept

abbrev pub Watched : Type 0
Watched = WatchedKept

abbrev pub Summed : Type 0
Summed = SummedKept

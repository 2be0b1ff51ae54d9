use Rattle.std.proofs.Common.{◌≡◌, take}
use Rattle.rfb_server.proofs.session.Session.is_hinted_as.Given as goal

-- the hints so far are the same
abbrev pub invariant-loop-index : goal.invariant-loop-index
invariant-loop-index l = take l.index l.self.hints.items ≡ take l.index l.other.hints.items

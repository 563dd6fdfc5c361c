use Rattle.std.proofs.Common.{◌≡◌, ◌+◌, ◌++◌, take, drop}
use Rattle.history.proofs.pieces.put_bytes.Given as goal

abbrev pub invariant-loop-i : goal.invariant-loop-i
invariant-loop-i l = record {
  put : take (l.at + l.i) l.line ≡ take l.at l.initial.line ++ take l.i l.bytes;
  rest : drop (l.at + l.i) l.line ≡ drop (l.at + l.i) l.initial.line;
}

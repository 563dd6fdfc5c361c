use Rattle.std.proofs.Common.{◌≡◌, ◌+◌, ◌≤◌, [], ◌++◌, length, replicate, vec_len, vec_capacity}
use Rattle.history.proofs.page.reserve_pages.Given as goal

abbrev pub invariant-loop : goal.invariant-loop
invariant-loop l = record {
  items : l.pages.items ≡ l.fn.pages.items ++ replicate l.counter [];
  standing : l.standing ≡ length l.fn.pages.items;
  room : vec_len l.initial.pages + l.more ≤ vec_capacity l.pages;
  len : vec_len l.pages ≡ vec_len l.initial.pages + l.counter;
}

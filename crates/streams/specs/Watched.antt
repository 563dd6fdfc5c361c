-- A source that is watched, as its callers see it.

-- the source below, and who is told how much of it is read
pub record Watching (R W : Type 0) : Type 0 where
  pub inner : R
  pub watch : W

-- What acquire_queue cites of the crates below, passed on from one place: names of history and node_arena.
-- Declares nothing.
pub use Rattle.history.specs.declared.arrival.Arrival.{Arrival}
pub use Rattle.history.specs.declared.base.LinePlace.{LinePlace}
pub use Rattle.history.specs.Base.{stands_from}
pub use Rattle.history.specs.Line.{first_of, place_of}
pub use Rattle.history.specs.Start.{awake}
pub use Rattle.history.specs.Waiting.{StandOnce}
pub use Rattle.node_arena.specs.declared.node.Node.{Node}
pub use Rattle.node_arena.specs.declared.node.NodeNo.{NodeNo}
pub use Rattle.node_arena.specs.declared.node.NumberedNode.{NumberedNode}
pub use Rattle.node_arena.specs.NodeList.{Nodes, is_at, at_place, of_number, under, without_place, cancelled, cancel_at, StandApart, standing_before}

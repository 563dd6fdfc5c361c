pub mod AnyObject

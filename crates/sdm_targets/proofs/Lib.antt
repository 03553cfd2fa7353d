pub mod FallLaws
pub mod FallLists
pub mod CountLaws
pub mod RangeLaws

pub mod CountLaws
pub mod BookLaws
pub mod BookViews
pub mod ForkLaws
pub mod UseLaws

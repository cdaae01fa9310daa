pub mod CountedLaws
pub mod NodeLineLaws
pub mod HeadingLaws
pub mod DependenceLaws
pub mod ShownLaws
pub mod EndLaws

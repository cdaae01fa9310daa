pub mod ApartLaws
pub mod KeyLaws
pub mod JoinLaws

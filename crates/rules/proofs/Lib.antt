pub mod TicketLaws
pub mod CallLaws
pub mod ParentLaws
pub mod NodeLaws
pub mod SettledLaws

pub mod Chosen
pub mod RolledBack
pub mod Latest
pub mod Written
pub mod Floor
pub mod Shown
pub mod PlanTable

pub mod OneFault
pub mod FileChoices

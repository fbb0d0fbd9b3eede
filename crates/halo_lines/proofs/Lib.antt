pub mod ContractReports
mod PayByPay
pub mod PrintedEnds
mod ReserveLines
pub mod Room

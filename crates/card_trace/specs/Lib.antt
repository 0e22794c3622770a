pub mod ExchangeLines
pub mod Known
pub mod TraceText

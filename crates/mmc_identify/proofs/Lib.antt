pub mod AddressLemmas
pub mod FoundLemmas
pub mod InquiryLemmas
pub mod JoinLemmas
pub mod LoopLemmas
pub mod SingleLemmas

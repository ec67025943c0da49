pub mod Answering
pub mod Listed
pub mod Costs
pub mod Laws
pub mod Headline
pub mod Serving
pub mod Opening

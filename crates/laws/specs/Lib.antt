pub mod Choice
pub mod Numbers
pub mod Lists
pub mod Ring

pub mod ExtentLemmas
